use Rattle.std.proofs.Common.{◌≡◌, ◌<◌, length, arith, get_or, ap, ◌∙◌, map, true, false}
use Rattle.std.proofs.lemmas.List.{get_or_read}
use Rattle.tcb_arena.specs.Inner.Rings.{Lists, rings, is_in_any, with_before}
use Rattle.tcb_arena.proofs.Changes.{AreRings-before, rings-before}
use Rattle.tcb_arena.proofs.links.Rings.put_before.Goals as goal

pub invariant_of-self : goal.invariant_of-self
invariant_of-self c =
    let f = c.self.inside in
    let r = c.self.invariant in
    let lo : c.args.other < f.names = omega (arith, c.requires.other, ap (λ (v : Lists). v.names) c.self.view_is) in
    let lx : c.args.name < f.names = omega (arith, c.requires.name_in, ap (λ (v : Lists). v.names) c.self.view_is) in
    let lp : c.args.other < length f.prev.items = omega (arith, r.room, r.inverse.lengths) in
    let is : c.index-last.result.now ≡ get_or f.prev.items c.args.other 0 = get_or_read f.prev.items c.args.other c.index-last.result.now lp c.index-last.ensures 0 in
    let there : is_in_any c.args.other (rings f.names f.next.items) ≡ true = ap (λ (v : Lists). is_in_any c.args.other v.lists) c.self.view_is ∙ c.requires.there in
    let free : is_in_any c.args.name (rings f.names f.next.items) ≡ false = ap (λ (v : Lists). is_in_any c.args.name v.lists) c.self.view_is ∙ c.requires.free in
    AreRings-before f.names f.next.items f.prev.items c.args.other c.args.name c.index-last.result.now r lo there lx free is

pub returns : goal.returns
returns c =
    let f = c.self.inside in
    let r = c.self.invariant in
    let lo : c.args.other < f.names = omega (arith, c.requires.other, ap (λ (v : Lists). v.names) c.self.view_is) in
    let lx : c.args.name < f.names = omega (arith, c.requires.name_in, ap (λ (v : Lists). v.names) c.self.view_is) in
    let lp : c.args.other < length f.prev.items = omega (arith, r.room, r.inverse.lengths) in
    let is : c.index-last.result.now ≡ get_or f.prev.items c.args.other 0 = get_or_read f.prev.items c.args.other c.index-last.result.now lp c.index-last.ensures 0 in
    let there : is_in_any c.args.other (rings f.names f.next.items) ≡ true = ap (λ (v : Lists). is_in_any c.args.other v.lists) c.self.view_is ∙ c.requires.there in
    let free : is_in_any c.args.name (rings f.names f.next.items) ≡ false = ap (λ (v : Lists). is_in_any c.args.name v.lists) c.self.view_is ∙ c.requires.free in
    let put = rings-before f.names f.next.items f.prev.items c.args.other c.args.name c.index-last.result.now r lo there lx free is in
    let old : map (with_before c.args.other c.args.name) (rings f.names f.next.items) ≡ map (with_before c.args.other c.args.name) c.args.self.now.lists = ap (λ (v : Lists). map (with_before c.args.other c.args.name) v.lists) c.self.view_is in
    let first : f.names ≡ c.args.self.now.names = ap (λ (v : Lists). v.names) c.self.view_is in
    let after = put ∙ old in
    cc
