use Rattle.std.proofs.Common.{◌≡◌, ◌+◌, ◌++◌, ◌∷◌, [], length, ap, ◌∙◌, arith}
use Rattle.l4_explore.specs.Inner.Codes.{codes_of}
use Rattle.l4_explore.proofs.Ends.{codes_more, ends_more}
use Rattle.l4_explore.proofs.codes.Codes.push.Goals as goal

bytes_are : (c : goal.After-push_reserved) →
    c.extend_from_slice.new.self.items ≡ c.self.inside.bytes.items ++ c.args.code.now
bytes_are c = c.in_ok-extend_from_slice.ensures.items

ends_are : (c : goal.After-push_reserved) → c.push_reserved.new.self.items
    ≡ c.self.inside.ends.items ++ (length c.self.inside.bytes.items + length c.args.code.now) ∷ []
ends_are c =
    c.push_reserved.ensures.items
    ∙ ap (λ es. es ++ (c.len.result + length c.args.code.now) ∷ []) c.reserve.ensures.items
    ∙ ap (λ end. c.self.inside.ends.items ++ end ∷ [])
    (omega (arith, c.len.ensures, c.self.inside.bytes.ok.0))

pub invariant_of-self-2 : goal.invariant_of-self-2
invariant_of-self-2 c =
    rw (bytes_are c) (rw (ends_are c)
    (ends_more c.self.inside.bytes.items c.self.inside.ends.items c.args.code.now c.self.invariant))

pub returns-clause-ok : goal.returns-clause-ok
returns-clause-ok c =
    rw (← c.self.view_is) (
    ap (λ bs. codes_of bs c.push_reserved.new.self.items) (bytes_are c)
    ∙ ap (codes_of (c.self.inside.bytes.items ++ c.args.code.now)) (ends_are c)
    ∙ codes_more c.self.inside.bytes.items c.self.inside.ends.items c.args.code.now
    c.self.invariant)
