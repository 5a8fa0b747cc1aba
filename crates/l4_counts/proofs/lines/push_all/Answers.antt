use Rattle.std.proofs.Common.{ap, length, ◌∙◌}
use Rattle.std.specs.Iterator.Adapters.{zip_first, zip_second}
use Rattle.std.specs.Slice.Iter.{iter_rest}
use Rattle.std.specs.String.{string_bytes}
use Rattle.std.proofs.lemmas.List.{length_push}
use Rattle.std.proofs.lemmas.Slice.Zip.{zip_end, zip_turn}
use Rattle.l4_counts.proofs.Told.{line_more, lines_end}
use Rattle.l4_counts.proofs.lines.push_all.Goals as goal

pub loop-declared-preserved : goal.loop-declared-preserved
loop-declared-preserved c =
    let l = c.loop-declared in
    let ds = c.args.threads.now in
    let cs = c.args.counts.now in
    let it = c.into_iter-declared-iterator.ensures.into_iter_gives in
    let first = ap (λ z. iter_rest (zip_first z)) it ∙ ap iter_rest c.zip-declared-items.ensures.first ∙ c.iter.ensures.rest in
    let second = ap (λ z. iter_rest (zip_second z)) it ∙ c.zip-declared-items.ensures.second.0 in
    let turn = zip_turn ds cs l.yielded c.into_iter-declared-iterator.result l.declared-iterator c.next.new.self c.next.result first second l.yielded_by
    (c.in-Some.declared, c.in-Some.counts) c.in-Some.is c.next.ensures.steps in
    line_more ds cs (string_bytes c.args.text.now) (string_bytes l.text) (string_bytes c.push_counts.new.text) (length l.yielded) _
    c.in-Some.declared.now c.in-Some.counts.now c.id.result turn.0 turn.1 (turn.2 c.in-Some.declared.now) (turn.3 c.in-Some.counts.now)
    c.id.ensures (length_push l.yielded (c.in-Some.declared, c.in-Some.counts)) l.invariant c.in_ok-push_counts.ensures

pub returns : goal.returns
returns c =
    let l = c.loop-declared in
    let ds = c.args.threads.now in
    let cs = c.args.counts.now in
    let it = c.into_iter-declared-iterator.ensures.into_iter_gives in
    let first = ap (λ z. iter_rest (zip_first z)) it ∙ ap iter_rest c.zip-declared-items.ensures.first ∙ c.iter.ensures.rest in
    let second = ap (λ z. iter_rest (zip_second z)) it ∙ c.zip-declared-items.ensures.second.0 in
    let size = zip_end ds cs l.yielded c.into_iter-declared-iterator.result l.declared-iterator c.next.new.self c.next.result first second l.yielded_by
    c.in-None.is c.next.ensures.steps in
    lines_end ds cs (string_bytes c.args.text.now) (string_bytes l.text) (length l.yielded) size l.invariant
