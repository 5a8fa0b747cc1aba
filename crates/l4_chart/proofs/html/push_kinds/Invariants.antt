use Rattle.std.proofs.Common.{◌≡◌, ◌++◌, take}
use Rattle.std.specs.Prelude.{flat_map}
use Rattle.std.specs.String.{string_bytes}
use Rattle.l4_chart.specs.Pages.{legend}
use Rattle.l4_chart.proofs.html.push_kinds.Given as goal

abbrev pub invariant-loop-kind : goal.invariant-loop-kind
invariant-loop-kind l =
    string_bytes l.page ≡ string_bytes l.initial.page ++ flat_map legend (take l.kind-index l.kinds)
