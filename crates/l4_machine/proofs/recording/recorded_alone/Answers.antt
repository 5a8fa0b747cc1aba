use Rattle.std.proofs.Common.{Vec, Global, ◌≡◌, ◌<◌, ◌≤◌, List, length, get_or, map, replicate, set, ap, arith, sym, ◌∙◌}
use Rattle.std.proofs.lemmas.List.{length-map, map-set}
use Rattle.std.specs.Option.{option_map}
use Rattle.std.proofs.lemmas.Option.{get_or_from_slice_get, slice_get-map}
use Rattle.l4_bisimilar.specs.Entries.{entry_of}
use Rattle.l4_core_model.specs.Schedules.{CoreOf, Entry}
use Rattle.l4_proc.specs.Choices.{action_of}
use Rattle.l4_proc.specs.Logs.{actions}
use Rattle.l4_proc.specs.declared.log.Log.{Log}
use Rattle.l4_replay.specs.Entries.{entry_from}
use Rattle.l4_machine.proofs.Named.{all_named, is_named, map_replicate, named, none_named, stays}
use Rattle.l4_machine.proofs.Recorded.{as_many_actions}
use Rattle.l4_replay.specs.declared.entries.Entry as code
use Rattle.l4_machine.proofs.recording.recorded_alone.Goals as goal
use Rattle.l4_machine.proofs.recording.recorded_alone.Goals.{in-Core, in_default}

as_many : (log : Log) → length (map entry_of (actions log)) ≡ length (actions log)
as_many log = length-map (actions log) entry_of

pub loop-i-init : goal.loop-i-init
loop-i-init c =
    let log : Log = c.log-log.result.now in
    let core : Entry = CoreOf c.cpu-cpu.result in
    let many : c.len.result ≡ length (map entry_of (actions log)) = omega (arith, as_many log, as_many_actions log, c.len.ensures) in
    ap (map entry_from) (c.in_ok-entries.ensures.items_if_clones_equal (λ y same. same))
    ∙ map_replicate entry_from c.len.result _
    ∙ ap (λ n. replicate n core) many
    ∙ sym (none_named (map entry_of (actions log)) core)

pub loop-i-preserved : goal.loop-i-preserved
loop-i-preserved c =
    let log : Log = c.log-log.result.now in
    let i = c.loop-i.i in
    let items = c.loop-i.entries.items in
    let entries : List Entry = map entry_of (actions log) in
    let core : Entry = CoreOf c.cpu-cpu.result in
    let entry : Entry = entry_of (action_of log.cpu c.choice.result) in
    let within : i < length entries = omega (arith, as_many log, as_many_actions log, c.len-i-end.ensures, c.loop-i-test.true) in
    let own : c.cpu-cpu.result ≡ log.cpu = c.cpu-cpu.ensures ∙ sym c.args.processor.now.whole.log_of ∙ sym (ap (λ (log : Log). log.cpu) c.log-log.ensures.log) in
    let at : get_or entries i core ≡ entry =
    get_or_from_slice_get entries i entry core (slice_get-map entry_of (actions log) i ∙ ap (option_map entry_of) c.choice.ensures) in
    elim c.match-choice.branch [
      | in-Core w ↦ ap (λ (v : Vec code.Entry Global). map entry_from v.items) w.entries-is
          ∙ c.loop-i.invariant
          ∙ stays i entries core core within (at ∙ ap (λ choice. entry_of (action_of log.cpu choice)) w.in-Core.is ∙ ap CoreOf (sym own))
      | in_default w ↦ ap (λ (v : Vec code.Entry Global). map entry_from v.items) w.entries-is
          ∙ map-set entry_from items i w.entry.result
          ∙ ap (λ es. set es i (entry_from w.entry.result)) c.loop-i.invariant
          ∙ ap (set (named i entries core) i) (w.entry.ensures ∙ ap (λ cpu. entry_of (action_of cpu c.choice.result)) own ∙ sym at)
          ∙ is_named i entries core core within
    ]

pub returns : goal.returns
returns c =
    let log : Log = c.log-log.result.now in
    let entries : List Entry = map entry_of (actions log) in
    let all : length entries ≤ c.loop-i.i = omega (arith, as_many log, as_many_actions log, c.len-i-end.ensures, c.loop-i-test.false) in
    c.loop-i.invariant
    ∙ all_named c.loop-i.i entries (CoreOf c.cpu-cpu.result) all
    ∙ ap (λ (log : Log). map entry_of (actions log)) c.log-log.ensures.log
