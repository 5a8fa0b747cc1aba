use Rattle.std.proofs.Common.{◌≡◌, false, ap, get_or, refl, subst, take, ◌++◌, ◌∙◌, ◌∷◌, []}
use Rattle.std.specs.Prelude.{IfSome}
use Rattle.l4_model.specs.Machine.{Machine}
use Rattle.l4_explore.specs.Search.{has_code, seen_at}
use Rattle.l4_explore.specs.Inner.Views.{next_from}
use Rattle.l4_futures.specs.Choices.{possible}
use Rattle.l4_all_endings.specs.Tried.{entries_of}
use Rattle.l4_condition_lines.specs.Inner.Reading.{reads_of}
use Rattle.l4_always.specs.Inner.Unseen.{IsUnseenBy}
use Rattle.l4_always.proofs.Watching.{lone}
use Rattle.l4_always.proofs.watch.Watch.lone_choice.Goals as goal

pub returns-then-is_later : goal.returns-then-is_later
returns-then-is_later c =
    let m = c.args.self.now.machine.now in
    let reads = reads_of c.args.self.now.condition.now in
    let w = c.args.outlook.now.world in
    let all = c.args.all.now in
    let i = c.loop-entry.entry-index in
    let entry = get_or all i 0 in
    let before = take c.args.place c.args.found.now in
    let seen = seen_at c.args.found.now c.args.place in
    lone m reads before seen w all i 0 entry (next_from c.in-Some.choice)
    (c.requires.possible ∙ ap (λ (n : Machine). entries_of (possible n w)) c.requires.same)
    c.loop-entry-test.true refl
    (subst (λ o. IfSome o (λ choice. IsUnseenBy m reads w entry (next_from choice))) c.in-Some.is
    c.in_ok-choice.ensures)
    (subst (λ code. has_code (before ++ seen ∷ []) code ≡ false) c.deref.ensures.value
    (c.is_later.ensures c.if-is_later.true))
