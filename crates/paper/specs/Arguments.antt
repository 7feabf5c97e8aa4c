-- A call as its kind, its words and its bytes, and back: what C hands over, and what a trace of calls is made of. A reader must believe
-- this file.
--   calls_of a b c s p    the call of each kind, 1 to 19 in the paper's order, made of the words a b c and the bytes s p; what a call does
--                         not take is ignored
--   call_of kind words bytes   the one of this kind; of no kind it is find, of the name 0
--   arguments_of call     its kind, its words, and its bytes, STAT and PRIO: they tell the call
-- Assumes nothing.
use Rattle.std.specs.Prelude.{◌≡◌, refl, List, [], ◌∷◌, ℕ, ◌-◌, get_or}
use Rattle.paper.specs.declared.call.Call.{Call}
use Rattle.paper.specs.declared.call.Call.TheVariants.{Install, PostInterrupt, Find, CancelTask, Claim, Prepare, Release, Send}
use Rattle.paper.specs.declared.call.Call.TheVariants.{SendAndWait, Resend, ResendAndWait, Forward, ForwardAndWait, Return}
use Rattle.paper.specs.declared.call.Call.TheVariants.{ReturnAndWait, Receive, ReceiveAndWait, CancelMessage, WaitForInterrupt}

abbrev pub calls_of : ℕ → ℕ → ℕ → ℕ → ℕ → List Call
calls_of a b c s p =
    Install a s p b c ∷ PostInterrupt a ∷ Find a ∷ CancelTask a ∷ Claim ∷ Prepare a s p b ∷ Release a ∷ Send a b ∷ SendAndWait a b
    ∷ Resend a ∷ ResendAndWait a ∷ Forward a b ∷ ForwardAndWait a b ∷ Return a ∷ ReturnAndWait a ∷ Receive ∷ ReceiveAndWait
    ∷ CancelMessage a b ∷ WaitForInterrupt ∷ []

abbrev pub call_of : ℕ → List ℕ → List ℕ → Call
call_of kind words bytes =
    get_or (calls_of (get_or words 0 0) (get_or words 1 0) (get_or words 2 0) (get_or bytes 0 0) (get_or bytes 1 0)) (kind - 1) (Find 0)

pub record Arguments (call : Call) : Type 0 where
  pub kind : ℕ
  pub words : List ℕ
  pub bytes : List ℕ
  pub again : call_of kind words bytes ≡ call

abbrev pub arguments : (kind : ℕ) (words bytes : List ℕ) → Arguments (call_of kind words bytes)
arguments kind words bytes = record { kind = kind; words = words; bytes = bytes; again = refl }

abbrev pub arguments_of : (call : Call) → Arguments call
arguments_of (Install k s p sptr name) = arguments 1 (k ∷ sptr ∷ name ∷ []) (s ∷ p ∷ [])
arguments_of (PostInterrupt k) = arguments 2 (k ∷ []) []
arguments_of (Find name) = arguments 3 (name ∷ []) []
arguments_of (CancelTask k) = arguments 4 (k ∷ []) []
arguments_of Claim = arguments 5 [] []
arguments_of (Prepare m s p sptr) = arguments 6 (m ∷ sptr ∷ []) (s ∷ p ∷ [])
arguments_of (Release m) = arguments 7 (m ∷ []) []
arguments_of (Send m r) = arguments 8 (m ∷ r ∷ []) []
arguments_of (SendAndWait m r) = arguments 9 (m ∷ r ∷ []) []
arguments_of (Resend m) = arguments 10 (m ∷ []) []
arguments_of (ResendAndWait m) = arguments 11 (m ∷ []) []
arguments_of (Forward m r) = arguments 12 (m ∷ r ∷ []) []
arguments_of (ForwardAndWait m r) = arguments 13 (m ∷ r ∷ []) []
arguments_of (Return m) = arguments 14 (m ∷ []) []
arguments_of (ReturnAndWait m) = arguments 15 (m ∷ []) []
arguments_of Receive = arguments 16 [] []
arguments_of ReceiveAndWait = arguments 17 [] []
arguments_of (CancelMessage m r) = arguments 18 (m ∷ r ∷ []) []
arguments_of WaitForInterrupt = arguments 19 [] []
