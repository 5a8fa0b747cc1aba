use Rattle.std.proofs.Common.{sym, ◌∙◌, ap}
use Rattle.l4_model.specs.Words.{W64, word_in, id_in}
use Rattle.l4_types.specs.Inner.FormatView.{format_of}
use Rattle.l4_types.specs.declared.formats.Format.{Format}
use Rattle.l4_types.proofs.InFormats.{has_its_word, is_its_id}
use Rattle.l4_types.proofs.ids.ThreadId.raw_in.Goals as goal

pub returns-in-W64-clause-value : goal.returns-in-W64-clause-value
returns-in-W64-clause-value c =
    sym (ap (λ (f : Format). word_in (format_of f) c.args.self.now) c.in-W64.is ∙ ap (word_in W64) (sym c.raw.ensures.back) ∙ has_its_word W64 c.raw.result c.raw.type_inv)

pub returns-in-W64-clause-back : goal.returns-in-W64-clause-back
returns-in-W64-clause-back c =
    ap (λ (f : Format). id_in (format_of f) c.raw.result) c.in-W64.is
    ∙ is_its_id W64 c.args.self.now c.raw.result (ap (word_in W64) (sym c.raw.ensures.back) ∙ has_its_word W64 c.raw.result c.raw.type_inv)
