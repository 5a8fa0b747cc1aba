-- The reports of the threads, and what an auditor begins with.
use Rattle.std.proofs.Common.{◌≡◌, ℕ, List, [], ◌∷◌, map, length, refl, ap, sym, ◌∙◌}
use Rattle.std.specs.Prelude.{zip, replicate}
use Rattle.std.proofs.lemmas.List.{length-replicate}
use Rattle.l4_model.specs.Machine.{Declaration, Machine}
use Rattle.l4_model.specs.World.{Owed, opening, opening_thread}
use Rattle.l4_model.specs.History.{report_of, view}
use Rattle.l4_core_model.specs.Plain.{Waiting}
use Rattle.l4_thread.specs.Inner.Parts.{Block}
use Rattle.l4_audit.specs.Inner.Audited.{Audited, IsOf, senders_of}
use Rattle.l4_audit.proofs.Lists.{none_waits}
use Rattle.l4_audit.proofs.Writing.{audited}

abbrev pub opening_block : Declaration → Block
opening_block d = record { id = d.id; thread = opening_thread }

zipped : (bs : List Block) → map (λ p. report_of p.0 p.1) (zip (map (λ (b : Block). b.id) bs) (map (λ (b : Block). b.thread) bs)) ≡ map (λ (b : Block). report_of b.id b.thread) bs
zipped [] = refl
zipped (b ∷ bs) = ap (λ rs. report_of b.id b.thread ∷ rs) (zipped bs)

pub reports-all : (m : Machine) (bs : List Block) {lists : List (List Waiting)} (ws : List (List ℕ)) (cs : List ℕ) (os : List Owed) (a : Audited) → audited m bs ws cs os ≡ a → IsOf m bs lists →
    map (λ (b : Block). report_of b.id b.thread) bs ≡ view a.machine a.world
reports-all m bs ws cs os a is of =
    sym (zipped bs) ∙ ap (λ ids. map (λ p. report_of p.0 p.1) (zip ids (map (λ (b : Block). b.thread) bs))) of.ids
    ∙ ap (λ (x : Audited). view x.machine x.world) is

map_map : {A B C : Type 0} (f : B → C) (g : A → B) (xs : List A) → map f (map g xs) ≡ map (λ x. f (g x)) xs
map_map f g [] = refl
map_map f g (x ∷ xs) = ap (λ ys. f (g x) ∷ ys) (map_map f g xs)

pub opened_is : (m : Machine) (bs : List Block) (lists : List (List Waiting)) (cs : List ℕ) (os : List Owed) → bs ≡ map opening_block m.threads → lists ≡ replicate (length m.threads) [] → cs ≡ replicate m.cpus 0 → os ≡ [] →
    audited m bs (senders_of lists) cs os ≡ record { machine = m; world = opening m }
opened_is m bs lists cs os a b c d =
    let threads = map_map (λ (x : Block). x.thread) opening_block m.threads in
    let none = none_waits m.threads in
    rw (a, b, c, d, threads, none) refl

pub opened_of : (m : Machine) (bs : List Block) (lists : List (List Waiting)) → bs ≡ map opening_block m.threads → lists ≡ replicate (length m.threads) [] → IsOf m bs lists
opened_of m bs lists a b =
    record { ids = ap (map (λ (x : Block). x.id)) a ∙ map_map (λ (x : Block). x.id) opening_block m.threads; counted = ap length b ∙ length-replicate (length m.threads) [] }
