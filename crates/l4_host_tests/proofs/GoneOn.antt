-- Processors of one machine that have all gone on, each by itself.
use Rattle.std.proofs.Common.{◌≡◌, ℕ, zero, suc, Some, List, [], ◌∷◌, map, length, refl, ap₂, sym, ◌∙◌, subst, arith, Vec, Global}
use Rattle.std.specs.Prelude.{slice_get}
use Rattle.std.specs.Vec.{with_items}
use Rattle.std.proofs.lemmas.List.{with_items_is}
use Rattle.std.proofs.lemmas.Option.{slice_get_within}
use Rattle.l4_model.specs.Machine.{Machine}
use Rattle.l4_mail.specs.Ports.{place, AreLinked}
use Rattle.l4_proc.specs.Working.{HasGoneOn}
use Rattle.l4_proc.specs.declared.processor.Processor.{Processor}
use Rattle.l4_proc.proofs.Rested.{port_of}
use Rattle.l4_machine.specs.Gathers.{AreOfOne}
use Rattle.l4_machine.proofs.InOneHand.{gone_on}
use Rattle.l4_machine.proofs.Members.{some_there}

abbrev HaveGoneOn : (olds news : List Processor) → Type 0
HaveGoneOn olds news = (i : ℕ) (old new : Processor) → slice_get olds i ≡ Some old → slice_get news i ≡ Some new → HasGoneOn old new

places : (olds news : List Processor) → length news ≡ length olds → HaveGoneOn olds news → map place (map port_of news) ≡ map place (map port_of olds)
places [] [] count each = refl
places [] (new ∷ news) count each = absurd (omega arith)
places (old ∷ olds) [] count each = absurd (omega arith)
places (old ∷ olds) (new ∷ news) count each =
    ap₂ (λ x xs. x ∷ xs) (each zero old new refl refl).place (places olds news (omega arith) (λ i a b was is. each (suc i) a b was is))

of_one_gone_on : (m : Machine) (olds news : List Processor) → length news ≡ length olds → HaveGoneOn olds news → AreOfOne m olds → AreOfOne m news
of_one_gone_on m olds news count each all = record {
  each = λ i p at.
      let lt = slice_get_within news i p at in
      let old = some_there olds i (omega (arith, count)) in
      gone_on m old.0 p (each i old.0 p old.1 at) (all.each i old.0 old.1);
  one = subst AreLinked (sym (places olds news count each)) all.one;
}

-- So are those that have worked in a slice.
pub of_one_behind : (m : Machine) (v : Vec Processor Global) (slice news : List Processor) → slice ≡ v.items → length slice ≡ v.len → length news ≡ length slice →
    HaveGoneOn slice news → AreOfOne m v.items → AreOfOne m (with_items v news).items
of_one_behind m v slice news value len count each all =
    subst (AreOfOne m) (sym (with_items_is v news (count ∙ len)))
    (of_one_gone_on m slice news count each (subst (AreOfOne m) (sym value) all))
