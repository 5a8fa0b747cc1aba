-- A format of words of the program, as one of the model.
use Rattle.l4_types.specs.declared.formats.Format.{Format}
use Rattle.l4_types.specs.declared.formats.Format.TheVariants as formats
use Rattle.l4_model.specs.Words as words

abbrev pub format_of : Format → words.Format
format_of formats.W64 = words.W64
format_of formats.W32 = words.W32
