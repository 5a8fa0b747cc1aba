use Rattle.std.proofs.Common.{◌≡◌, ℕ, ◌<◌, ◌≤◌, ◌⊎◌, inl, inr, true, ap, subst, sym, ◌∙◌, arith}
use Rattle.std.proofs.lemmas.Bool.{cases_lt}
use Rattle.l4_parts.specs.declared.parts.Part.{Part}
use Rattle.l4_parts.specs.Inner.Numbers.{part_at}
use Rattle.l4_parts.specs.Inner.Known.{number_at}
use Rattle.l4_parts.proofs.Composing.{all_there, busy_there}
use Rattle.l4_parts.proofs.rows.is_at_rest.Goals as goal

pub returns-then-not-part : goal.returns-then-not-part
returns-then-not-part c = λ m g i.
    busy_there m g c.args.parts.now c.args.row.now c.args.cpus i c.loop-place.place
    (omega (arith, c.loop-place-test.true, c.requires.long))
    (ap (λ (p : Part). p.rests) (sym c.part.ensures) ∙ c.if-not-part.true)

pub loop-place-preserved : goal.loop-place-preserved
loop-place-preserved c place less = by (cases_lt place c.loop-place.place)
  where
    Rests : ℕ → Type 0
    Rests n = (part_at c.args.parts.now (number_at c.args.row.now n)).rests ≡ true

    by : (place < c.loop-place.place) ⊎ (c.loop-place.place ≤ place) → Rests place
    by (inl l) = c.loop-place.invariant place l
    by (inr le) = subst Rests (let s : c.loop-place.place ≡ place = omega (arith, less, le) in s)
        (ap (λ (p : Part). p.rests) (sym c.part.ensures) ∙ c.if-not-part.false)

pub returns : goal.returns
returns c = λ m g i.
    all_there m g c.args.parts.now c.args.row.now c.args.cpus i (λ place less.
    c.loop-place.invariant place (omega (arith, less, c.requires.long, c.loop-place-test.false)))
