use Rattle.std.proofs.Common.{◌≡◌, ◌<◌, length, arith, get_or, ap, ◌∙◌, sym, not, ⊎_elim}
use Rattle.std.proofs.lemmas.List.{get_or_read}
use Rattle.std.proofs.lemmas.Bool.{cases_eq, eq-eqb, ne_eqb}
use Rattle.tcb_arena.specs.Inner.Rings.{Lists, rings, is_in_any}
use Rattle.tcb_arena.proofs.Changes.{is_in_any-free, sound_shown}
use Rattle.tcb_arena.proofs.links.Rings.is_linked.Goals as goal

pub returns-clause-linked : goal.returns-clause-linked
returns-clause-linked c =
    let f = c.self.inside in
    let r = c.self.invariant in
    let at = c.index.result.now in
    let x = c.args.name in
    let lx : x < f.names = omega (arith, c.requires, ap (λ (v : Lists). v.names) c.self.view_is) in
    let ln : x < length f.next.items = omega (arith, r.room) in
    let is : at ≡ get_or f.next.items x 0 = get_or_read f.next.items x at ln c.index.ensures 0 in
    let shows : is_in_any x (rings f.names f.next.items) ≡ is_in_any x c.args.self.now.lists = ap (λ (v : Lists). is_in_any x v.lists) c.self.view_is in
    ⊎_elim
    (λ (e : at ≡ x). ap (λ b. not b) (eq-eqb at x e) ∙ sym (is_in_any-free f.names f.next.items f.prev.items x r lx (sym is ∙ e)) ∙ shows)
    (λ (ne : at ≡ x → ⊥). ap (λ b. not b) (ne_eqb at x ne) ∙ sym (r.found x lx (λ e. ne (is ∙ e))) ∙ shows)
    (cases_eq at x)

pub returns-clause-sound : goal.returns-clause-sound
returns-clause-sound c = sound_shown c.self.inside.names c.self.inside.next.items c.self.inside.prev.items c.args.self.now c.self.invariant c.self.view_is
