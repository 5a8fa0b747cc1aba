use Rattle.std.proofs.Common.{◌≡◌, ◌<◌, ◌≤◌, ℕ, List, length, get_or, take, drop, ◌-◌, sym, ap, ◌∙◌, arith}
use Rattle.std.proofs.lemmas.Grind.{get_or_default_zero}
use Rattle.l4_explore.specs.Inner.Codes.{start_of, codes_of}
use Rattle.l4_explore.proofs.Ends.{codes_of-at, length-codes_of}
use Rattle.l4_explore.proofs.codes.Codes.code.Goals as goal

within : (codes : List (List ℕ)) (bytes ends : List ℕ) (place : ℕ) → codes_of bytes ends ≡ codes →
    place < length codes → place < length ends
within codes bytes ends place is l = omega (arith, l, ap length is, length-codes_of bytes ends)

pub start-requires : goal.start-requires
start-requires c =
    let l = within c.args.self.now c.self.inside.bytes.items c.self.inside.ends.items c.args.place
    c.self.view_is c.requires in
    omega (arith, l, c.deref-2.ensures.len, c.self.inside.ends.ok.0)

pub index-requires : goal.index-requires
index-requires c =
    let l = within c.args.self.now c.self.inside.bytes.items c.self.inside.ends.items c.args.place
    c.self.view_is c.requires in
    omega (arith, l, c.self.inside.ends.ok.0)

rises : (c : goal.After-row_known-1) → c.start.result ≤ c.index.result.now
rises c =
    let ends = c.self.inside.ends.items in
    let l = within c.args.self.now c.self.inside.bytes.items ends c.args.place
    c.self.view_is c.requires in
    let rising = c.self.invariant.rising c.args.place l in
    omega (
      arith,
      rising,
      c.start.ensures,
      ap (λ es. start_of es c.args.place) c.deref-2.ensures.value,
      c.index.ensures,
      get_or_default_zero ends c.args.place c.index.result.now l,
    )

ends_inside : (c : goal.After-row_known-1) → c.index.result.now ≤ length c.deref.result.now
ends_inside c =
    let ends = c.self.inside.ends.items in
    let l = within c.args.self.now c.self.inside.bytes.items ends c.args.place
    c.self.view_is c.requires in
    let inside = c.self.invariant.inside c.args.place l in
    omega (
      arith,
      inside,
      ap length c.deref.ensures.value,
      c.index.ensures,
      get_or_default_zero ends c.args.place c.index.result.now l,
    )

pub slice_bounds-result-count : goal.slice_bounds-result-count
slice_bounds-result-count c = rises c

pub slice_bounds-result-start : goal.slice_bounds-result-start
slice_bounds-result-start c = rises c

pub slice_bounds-result-end : goal.slice_bounds-result-end
slice_bounds-result-end c = ends_inside c

pub returns : goal.returns
returns c =
    let ends = c.self.inside.ends.items in
    let l = within c.args.self.now c.self.inside.bytes.items ends c.args.place
    c.self.view_is c.requires in
    rw (← c.self.view_is)
    (ap (λ to. take (to - c.start.result) (drop c.start.result c.deref.result.now))
    (c.index.ensures ∙ get_or_default_zero ends c.args.place c.index.result.now l)
    ∙ ap (λ from. take (get_or ends c.args.place 0 - from) (drop from c.deref.result.now))
    (c.start.ensures ∙ ap (λ es. start_of es c.args.place) c.deref-2.ensures.value)
    ∙ ap (λ bs. take (get_or ends c.args.place 0 - start_of ends c.args.place)
    (drop (start_of ends c.args.place) bs)) c.deref.ensures.value
    ∙ sym (codes_of-at c.self.inside.bytes.items ends c.args.place l))
