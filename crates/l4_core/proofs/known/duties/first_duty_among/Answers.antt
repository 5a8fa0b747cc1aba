use Rattle.std.proofs.Common.{◌≡◌, sym, ap, ◌∙◌, None}
use Rattle.std.specs.Prelude.{not}
use Rattle.std.specs.Option.{option_map}
use Rattle.l4_core_model.specs.Plain.{list_of}
use Rattle.l4_core.specs.Inner.Choosing.{duty_of}
use Rattle.l4_core.specs.Inner.Covered.{first_zero}
use Rattle.l4_core.proofs.Covering.{covers-removed, fewer}
use Rattle.l4_core.proofs.Zeros.{none_found, zeros-removed}
use Rattle.l4_core.proofs.known.duties.first_duty_among.Goals as goal

pub places-smaller-then-is_none : goal.places-smaller-then-is_none
places-smaller-then-is_none c = fewer c.places.duties c.remove.new.self c.in-Some.place c.in-Some.ensures.within c.in-Some.ensures.there c.remove.ensures

pub places-preserved-then-is_none : goal.places-preserved-then-is_none
places-preserved-then-is_none c =
    let none : c.duty_at.result ≡ None = c.in_default-duty_at.is in
    let p = c.args.known.now in (
      covers-removed c.places.duties c.remove.new.self p.machine p.cpu p.local c.in-Some.place c.places.invariant.0 c.remove.ensures (sym c.duty_at.ensures ∙ ap (option_map (duty_of p.local.owed c.in-Some.place)) none),
      zeros-removed c.places.zeros c.remove-then-is_none.new.self p.local c.in-Some.place c.places.invariant.1 c.remove-then-is_none.ensures
          (none_found (first_zero p.local (list_of p.local.lists c.in-Some.place)) c.first_zero.result c.first_zero.ensures (c.is_none.ensures ∙ ap not c.if-is_none.true)),
    )

pub places-smaller : goal.places-smaller
places-smaller c = fewer c.places.duties c.remove.new.self c.in-Some.place c.in-Some.ensures.within c.in-Some.ensures.there c.remove.ensures

pub places-preserved : goal.places-preserved
places-preserved c =
    let none : c.duty_at.result ≡ None = c.in_default-duty_at.is in
    let p = c.args.known.now in (
      covers-removed c.places.duties c.remove.new.self p.machine p.cpu p.local c.in-Some.place c.places.invariant.0 c.remove.ensures (sym c.duty_at.ensures ∙ ap (option_map (duty_of p.local.owed c.in-Some.place)) none),
      c.places.invariant.1,
    )

pub returns-clause-found : goal.returns-clause-found
returns-clause-found c = λ place own. c.places.invariant.0.others place own (c.in_default.ensures place)
