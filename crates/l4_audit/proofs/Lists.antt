-- The lists of waiting senders, by their places alone.
use Rattle.std.proofs.Common.{◌≡◌, ℕ, ◌<◌, length, map, List, [], ◌∷◌, ◌++◌, refl, ap, sym, ◌∙◌}
use Rattle.std.proofs.lemmas.List.{length-map, map_push}
use Rattle.std.proofs.Math.ListN.{get_or-map}
use Rattle.std.specs.Prelude.{slice_index_or, replicate}
use Rattle.l4_model.specs.Machine.{Machine, Declaration}
use Rattle.l4_model.specs.World.{Owed, changed, queued, unqueued}
use Rattle.l4_model.proofs.Chains.{map-changed}
use Rattle.l4_core_model.specs.Plain as plain
use Rattle.l4_core_model.proofs.Changed.{blocks}
use Rattle.l4_core_model.proofs.Waiting.{unqueued_same}
use Rattle.l4_audit.specs.Inner.Audited.{Audited, IsOf, senders_of, with_world}
use Rattle.l4_audit.proofs.Writing.{audited, list_within}
use Rattle.l4_thread.specs.Inner.Parts.{Block}

-- A place within the threads is within the lists.
pub senders_within : (m : Machine) (bs : List Block) (lists : List (List plain.Waiting)) (cs : List ℕ) (os : List Owed) (a : Audited) (i : ℕ) → audited m bs (senders_of lists) cs os ≡ a → IsOf m bs lists →
    i < length a.world.threads → i < length lists
senders_within m bs lists cs os a i is of lt = list_within m bs lists (senders_of lists) cs os a i is of lt

-- The list of a receiver, by the places.
pub list_there : (m : Machine) (bs : List Block) (lists : List (List plain.Waiting)) (cs : List ℕ) (os : List Owed) (a : Audited) (r : ℕ) → audited m bs (senders_of lists) cs os ≡ a →
    blocks (slice_index_or lists r []) ≡ slice_index_or a.world.waiting r []
list_there m bs lists cs os a r is = sym (get_or-map blocks lists r []) ∙ ap (λ (b : Audited). slice_index_or b.world.waiting r []) is

-- A sender arrives in a list, and one leaves its list.

pub arrived : (m : Machine) (bs : List Block) (p : plain.Plain) (cs : List ℕ) (os : List Owed) (a : Audited) (r : ℕ) (w : plain.Waiting) → audited m bs (senders_of p.waiting) cs os ≡ a →
    audited m bs (senders_of (plain.queued r w p).waiting) cs os ≡ with_world a (queued a.world r w.block)
arrived m bs p cs os a r w is =
    let s : senders_of (plain.queued r w p).waiting ≡ changed (λ xs. xs ++ w.block ∷ []) (senders_of p.waiting) r =
    map-changed blocks (λ ws. ws ++ w ∷ []) (λ xs. xs ++ w.block ∷ []) (λ ws. map_push (λ (x : plain.Waiting). x.block) ws w) p.waiting r in
    rw (← is, s) refl

pub left : (m : Machine) (bs : List Block) (p : plain.Plain) (cs : List ℕ) (os : List Owed) (a : Audited) (s : ℕ) → audited m bs (senders_of p.waiting) cs os ≡ a →
    audited m bs (senders_of (plain.unqueued s p).waiting) cs os ≡ with_world a (unqueued a.world s)
left m bs p cs os a s is = let e = unqueued_same s p.waiting in rw (← is, ← e) refl

-- Nobody waits.
pub none_waits : (ds : List Declaration) → senders_of (replicate (length ds) []) ≡ map (λ d. []) ds
none_waits [] = refl
none_waits (d ∷ ds) = ap (λ ls. [] ∷ ls) (none_waits ds)

-- There are as many lists as threads are declared.
pub lists_as_many : (m : Machine) (bs : List Block) (lists : List (List plain.Waiting)) (cs : List ℕ) (os : List Owed) (a : Audited) → audited m bs (senders_of lists) cs os ≡ a → IsOf m bs lists →
    length a.world.waiting ≡ length a.machine.threads
lists_as_many m bs lists cs os a is of =
    sym (ap (λ (x : Audited). length x.world.waiting) is) ∙ length-map lists blocks ∙ of.counted ∙ ap (λ (x : Audited). length x.machine.threads) is
