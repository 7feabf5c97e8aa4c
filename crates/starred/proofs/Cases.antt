-- The starred worked boards hold: each row by computing, the 128 claims by the law of Claims.
-- Assumes nothing.
use mathlib.Core.Path.{◌≡◌, refl, ap, ◌∙◌}
use mathlib.Core.List.{List, [], ◌∷◌, ◌++◌, map}
use Prim.Native.Nat.{ℕ}
use lib.ListN.{replicate}
use Rattle.board.specs.Numbers.{small}
use Rattle.paper.specs.declared.call.Call.TheVariants.{Claim, Release, Receive, ReceiveAndWait}
use Rattle.paper.specs.Answers.{Handed, handed}
use Rattle.paper.specs.Outcomes.{blank}
use Rattle.paper.specs.History.{run}
use Rattle.starred.specs.Table.{Nothing, Holds, Starred, accepts, refuses, lone, claimed, fresh_install, four_sent, installed, alone}
use Rattle.starred.specs.Table.{sent_to_itself, two_posts, all_claimed, forwarded, sent}
use Rattle.starred.proofs.Claims.{bytes, spread, claims-run}

fresh-install : Holds fresh_install
fresh-install = refl

four_sent_lem : Holds four_sent
four_sent_lem = refl

prio_01 : Holds (installed 0x01 (refuses 7))
prio_01 = refl

prio-FF : Holds (installed 0xFF (refuses 7))
prio-FF = refl

prio_03 : Holds (installed 0x03 (accepts 0 1 0))
prio_03 = refl

prio-FD : Holds (installed 0xFD (accepts 0 1 0))
prio-FD = refl

receive_empty : Holds (alone Receive (accepts 0 1 0))
receive_empty = refl

receive_and_wait : Holds (alone ReceiveAndWait (accepts 0 0 0))
receive_and_wait = refl

send_to_itself : Holds sent_to_itself
send_to_itself = refl

two_posts_lem : Holds two_posts
two_posts_lem = refl

forward_127 : Holds forwarded
forward_127 = refl

send_127 : Holds sent
send_127 = refl

-- ---- 128 claims, and the three calls after them
lone-bytes : (run small (blank small) lone).after ≡ bytes (spread 0 128)
lone-bytes = refl

last_three :
    map handed (run small (bytes (spread 128 0)) (Claim ∷ Release 7 ∷ Claim ∷ [])).answers ≡ refuses 11 ∷ accepts 0 1 0 ∷ accepts 7 1 0 ∷ []
last_three = refl

all_claimed_lem : Holds all_claimed
all_claimed_lem =
    ap (λ (a : List Handed). record { answers = a; seen = Nothing })
    (ap (λ (l : List ℕ). map handed (run small l (replicate 128 Claim ++ (Claim ∷ Release 7 ∷ Claim ∷ []))).answers) lone-bytes
    ∙ claims-run 128 0 (Claim ∷ Release 7 ∷ Claim ∷ []) refl
    ∙ ap (λ (l : List Handed). claimed 128 1 ++ l) last_three)

-- ---- the table
pub starred : Starred
starred =
    (fresh-install, (four_sent_lem, (prio_01, (prio-FF, (prio_03, (prio-FD, (receive_empty, (receive_and_wait, (send_to_itself, (two_posts_lem, (all_claimed_lem, (forward_127, (send_127, tt)))))))))))))
