use Rattle.std.proofs.Common.{◌<◌, length, Result, Ok, Err, IfOk, ap, sym, ◌∙◌, arith}
use Rattle.l4_explore.specs.Inner.Views.{all_arrived}
use Rattle.l4_explore.proofs.Growing.{code_there, length-seen}
use Rattle.l4_explore.proofs.found.Found.code.Goals as goal

inside : (c : goal.After-code) → c.args.place < length c.self.inside.codes
inside c = omega (
  arith,
  c.requires,
  ap length c.self.view_is,
  length-seen c.self.inside.codes
      (all_arrived c.self.inside.arrivals.items c.self.inside.ends.items) c.self.invariant.are,
)

pub code-requires : goal.code-requires
code-requires c = omega (
  arith,
  c.requires,
  ap length c.self.view_is,
  length-seen c.self.inside.codes
      (all_arrived c.self.inside.arrivals.items c.self.inside.ends.items) c.self.invariant.are,
)

if_ok : {A E : Type 0} {P Q : A → Type 0} (r : Result A E) → ((x : A) → P x → Q x) → IfOk r P →
    IfOk r Q
if_ok (Ok x) f p = f x p
if_ok (Err e) f p = tt

pub returns : goal.returns
returns c =
    rw (← c.self.view_is)
    (if_ok c.code.result (λ code is. is ∙ sym (code_there c.self.inside.codes
    (all_arrived c.self.inside.arrivals.items c.self.inside.ends.items) c.self.invariant.are
    c.args.place (inside c))) c.code.ensures)
