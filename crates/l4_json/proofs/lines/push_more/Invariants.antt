use Rattle.std.proofs.Common.{◌≡◌, ◌++◌, map, take}
use Rattle.std.specs.Prelude.{flat_map}
use Rattle.l4_json.specs.Objects.{One, member_text}
use Rattle.l4_json.specs.Inner.Views.{more_of}
use Rattle.l4_json.proofs.lines.push_more.Given as goal

abbrev pub invariant-loop-known : goal.invariant-loop-known
invariant-loop-known l =
    l.out.items ≡ l.initial.out.items ++ flat_map member_text (map (λ m. (m.0, One m.1)) (map more_of (take l.known-index l.more)))
