-- The threads that wait, from the blocks.
use Rattle.std.proofs.Common.{◌≡◌, ℕ, ◌<◌, ◌+◌, length, get_or, take, Option, Some, None, List, [], ◌∷◌, ◌++◌, map, refl, ap, sym, ◌∙◌, subst}
use Rattle.std.specs.Prelude.{zip, filter_map}
use Rattle.std.specs.List.{cons_option}
use Rattle.std.specs.Option.{option_to_list}
use Rattle.std.proofs.lemmas.List.{take_more}
use Rattle.std.proofs.lemmas.List.Elements.{filter_map-append}
use Rattle.l4_model.specs.Words.{GlobalId}
use Rattle.l4_model.specs.World.{Owed, World}
use Rattle.l4_model.specs.Machine.{Machine}
use Rattle.l4_core_model.specs.Plain.{Waiting}
use Rattle.l4_thread.specs.Inner.Parts.{Block}
use Rattle.l4_audit.specs.Inner.Audited.{Audited, IsOf}
use Rattle.l4_audit.specs.Waits.{waiting_thread, waits_in}
use Rattle.l4_audit.specs.declared.waits.Wait.{Wait}
use Rattle.l4_audit.proofs.Writing.{audited}

abbrev pub waiting_block : Machine → World → Block → Option (GlobalId × Wait)
waiting_block m w b = waiting_thread m w b.id b.thread

zipped : (m : Machine) (w : World) (bs : List Block) →
    filter_map (λ p. waiting_thread m w p.0 p.1) (zip (map (λ (b : Block). b.id) bs) (map (λ (b : Block). b.thread) bs)) ≡ filter_map (waiting_block m w) bs
zipped m w [] = refl
zipped m w (b ∷ bs) = ap (cons_option (waiting_block m w b)) (zipped m w bs)

pub waits-all : (m : Machine) (bs : List Block) {lists : List (List Waiting)} (ws : List (List ℕ)) (cs : List ℕ) (os : List Owed) (a : Audited) → audited m bs ws cs os ≡ a → IsOf m bs lists →
    filter_map (waiting_block a.machine a.world) bs ≡ waits_in a.machine a.world
waits-all m bs ws cs os a is of =
    let here : World = (audited m bs ws cs os).world in
    subst (λ (x : Audited). filter_map (waiting_block x.machine x.world) bs ≡ waits_in x.machine x.world) is
    (sym (zipped m here bs) ∙ ap (λ ids. filter_map (λ p. waiting_thread m here p.0 p.1) (zip ids (map (λ (b : Block). b.thread) bs))) of.ids)

one_at_most : {X : Type 0} (o : Option X) → cons_option o [] ≡ option_to_list o
one_at_most None = refl
one_at_most (Some x) = refl

-- One more of the blocks is looked at.
pub waits_more : (f : Block → Option (GlobalId × Wait)) (bs : List Block) (xs ys : List (GlobalId × Wait)) (n : ℕ) (b : Block) → n < length bs → b ≡ get_or bs n b → xs ≡ filter_map f (take n bs) →
    ys ≡ xs ++ option_to_list (f b) → ys ≡ filter_map f (take (n + 1) bs)
waits_more f bs xs ys n b lt at so_far more =
    let next : take (n + 1) bs ≡ take n bs ++ b ∷ [] = take_more bs n b lt ∙ ap (λ y. take n bs ++ y ∷ []) (sym at) in
    more ∙ ap (λ zs. zs ++ option_to_list (f b)) so_far
    ∙ ap (λ zs. filter_map f (take n bs) ++ zs) (sym (one_at_most (f b)))
    ∙ sym (ap (filter_map f) next ∙ filter_map-append f (take n bs) (b ∷ []))
