use Rattle.std.proofs.Common.{length, refl, ap, sym, ◌∙◌}
use Rattle.std.proofs.lemmas.Option.{slice_get_read}
use Rattle.l4_parts.specs.Inner.Known.{written}
use Rattle.l4_endings.proofs.Finding.{as_written, written_back}
use Rattle.l4_endings.proofs.learning.go_on.Goals as goal

pub returns : goal.returns
returns c = record {
  event = c.index-event.result.now;
  at = slice_get_read c.args.events.now.events.items _ c.args.event c.index-event.result.now refl
      c.requires.inside c.index-event.ensures;
  possible_is = refl;
  row_is =
      written_back c.args.row.now.len c.apply.new.row _
      (c.args.row.now.ok.0 ∙ sym (ap length (c.apply.ensures
      ∙ (λ i. written (c.deref.ensures.value i) (c.deref_mut.ensures.value i)))
      ∙ as_written c.index-event.result.now.writes.items c.args.row.now.items))
      ∙ c.apply.ensures ∙ (λ i. written (c.deref.ensures.value i) (c.deref_mut.ensures.value i));
}
