-- Document 01, 'Worked boards', those marked *, as document 02 has them now: the table, and what it claims. A reader must believe
-- this file.
--   Row          calls that set the fresh small board up, calls, what each hands back, and what is seen on the board then
--   Holds r      the row is true of the definitions
--   Starred      every row of the table holds
-- Assumes nothing.
use Rattle.std.specs.Prelude.{◌≡◌, List, [], ◌∷◌, ◌++◌, map, ℕ, zero, suc, replicate}
use Rattle.board.specs.Numbers.{small}
use Rattle.board.specs.Board.{board_of, message}
use Rattle.paper.specs.declared.call.Call.{Call}
use Rattle.paper.specs.declared.call.Call.TheVariants.{Install, PostInterrupt, Claim, Prepare, Release, Send, SendAndWait, Forward}
use Rattle.paper.specs.declared.call.Call.TheVariants.{Receive, ReceiveAndWait, WaitForInterrupt}
use Rattle.paper.specs.Answers.{Handed, handed}
use Rattle.paper.specs.Rules.{queue}
use Rattle.paper.specs.Outcomes.{blank}
use Rattle.paper.specs.History.{Ran, run}

-- ---- what a row says
-- what is seen: nothing is asked, all bytes, or the queue of a task and the PRIO bytes in queue order
pub data Look : Type 0 where
  Nothing : Look
  Bytes : List ℕ → Look
  Queue : ℕ → List ℕ → List ℕ → Look

pub record Row : Type 0 where
  pub before : List Call
  pub calls : List Call
  pub answers : List Handed
  pub seen : Look

-- the same look at the bytes l
abbrev pub look : List ℕ → Look → Look
look l Nothing = Nothing
look l (Bytes x) = Bytes l
look l (Queue r q prios) = let b = board_of small l in Queue r (queue small b r) (map (λ m. (message b m).prio) (queue small b r))

pub record Report : Type 0 where
  pub answers : List Handed
  pub seen : Look

abbrev pub report : Ran → Look → Report
report p s = record { answers = map handed p.answers; seen = look p.after s }

abbrev pub Holds : Row → Type 0
Holds r =
    report (run small (run small (blank small) r.before).after r.calls) r.seen ≡ record { answers = r.answers; seen = r.seen }

-- ---- answers in the paper's numbers
abbrev pub accepts : ℕ → ℕ → ℕ → Handed
accepts v c m = record { number = 0; value = v; running = c; delivered = m; rule = 0; record_no = 0 }

abbrev pub refuses : ℕ → Handed
refuses n = record { number = n; value = 0; running = 0; delivered = 0; rule = 0; record_no = 0 }

-- ---- the rows, in the paper's order
-- with the running task in byte 1: document 02, Ask 3
abbrev pub fresh_install : Row
fresh_install = record {
  before = [];
  calls = Install 3 0x05 0x33 0x1234 0x4154 ∷ [];
  answers = accepts 0 3 0 ∷ [];
  seen = Bytes (3 ∷ 3 ∷ replicate 22 0 ++ (0x05 ∷ 0x33 ∷ 0 ∷ 0 ∷ 0 ∷ 0 ∷ 0x34 ∷ 0x12 ∷ 0x54 ∷ 0x41 ∷ replicate 1442 0));
}

-- a lone task of priority 25
abbrev pub lone : List Call
lone = Install 1 0x01 0x33 0 0 ∷ []

abbrev pub four_sent : Row
four_sent = record {
  before =
      lone
      ++ (Claim ∷ Claim ∷ Claim ∷ Claim ∷ Prepare 1 0 0x14 0 ∷ Prepare 2 0 0x15 0 ∷ Prepare 3 0 0x14 0 ∷ Prepare 4 0 0x0B 0 ∷ []);
  calls = Send 1 1 ∷ Send 2 1 ∷ Send 3 1 ∷ Send 4 1 ∷ [];
  answers = accepts 0 1 0 ∷ accepts 0 1 0 ∷ accepts 0 1 0 ∷ accepts 0 1 0 ∷ [];
  seen = Queue 1 (4 ∷ 3 ∷ 1 ∷ 2 ∷ []) (0x0B ∷ 0x15 ∷ 0x15 ∷ 0x15 ∷ []);
}

abbrev pub installed : ℕ → Handed → Row
installed prio a = record { before = []; calls = Install 1 0x01 prio 0 0 ∷ []; answers = a ∷ []; seen = Nothing }

abbrev pub alone : Call → Handed → Row
alone call a = record { before = lone; calls = call ∷ []; answers = a ∷ []; seen = Nothing }

abbrev pub sent_to_itself : Row
sent_to_itself =
    record { before = lone ++ (Claim ∷ []); calls = SendAndWait 1 1 ∷ []; answers = accepts 0 1 1 ∷ []; seen = Nothing }

abbrev pub two_posts : Row
two_posts = record {
  before = lone;
  calls = PostInterrupt 1 ∷ PostInterrupt 1 ∷ WaitForInterrupt ∷ WaitForInterrupt ∷ [];
  answers = accepts 0 1 0 ∷ accepts 0 1 0 ∷ accepts 0 1 0 ∷ accepts 0 0 0 ∷ [];
  seen = Nothing;
}

-- the answers to n claims, the first of them giving message m
abbrev pub claimed : ℕ → ℕ → List Handed
claimed zero m = []
claimed (suc n) m = accepts m 1 0 ∷ claimed n (suc m)

abbrev pub all_claimed : Row
all_claimed = record {
  before = lone;
  calls = replicate 128 Claim ++ (Claim ∷ Release 7 ∷ Claim ∷ []);
  answers = claimed 128 1 ++ (refuses 11 ∷ accepts 0 1 0 ∷ accepts 7 1 0 ∷ []);
  seen = Nothing;
}

-- a lone task that holds message 1 with PRIO FEH
abbrev pub own_priority : List Call
own_priority = lone ++ (Claim ∷ Prepare 1 0 0xFE 0 ∷ [])

abbrev pub forwarded : Row
forwarded = record { before = own_priority; calls = Forward 1 1 ∷ []; answers = refuses 7 ∷ []; seen = Nothing }

abbrev pub sent : Row
sent = record { before = own_priority; calls = Send 1 1 ∷ []; answers = accepts 0 1 0 ∷ []; seen = Queue 1 (1 ∷ []) (0x33 ∷ []) }

-- ---- the table
abbrev pub table : List Row
table =
    fresh_install ∷ four_sent ∷ installed 0x01 (refuses 7) ∷ installed 0xFF (refuses 7) ∷ installed 0x03 (accepts 0 1 0) ∷ installed 0xFD (accepts 0 1 0)
    ∷ alone Receive (accepts 0 1 0) ∷ alone ReceiveAndWait (accepts 0 0 0) ∷ sent_to_itself ∷ two_posts ∷ all_claimed ∷ forwarded ∷ sent ∷ []

abbrev pub AllHold : List Row → Type 0
AllHold [] = Unit {0}
AllHold (r ∷ rows) = Holds r × AllHold rows

abbrev pub Starred : Type 0
Starred = AllHold table
