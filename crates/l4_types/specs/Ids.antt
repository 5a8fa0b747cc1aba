-- What a thread id stands for.
use Rattle.std.specs.Prelude.{Option, Some, None}
use Rattle.l4_model.specs.Words as words
use Rattle.l4_types.specs.declared.ids.Kind.{Kind}
use Rattle.l4_types.specs.declared.ids.Kind.TheVariants.{Nil, Any, AnyLocal, Local, Global}

abbrev pub kind_of : words.Id → Kind
kind_of words.NilThread = Nil
kind_of words.AnyThread = Any
kind_of words.AnyLocalThread = AnyLocal
kind_of (words.LocalThread word) = Local
kind_of (words.GlobalThread t) = Global t.number t.version

abbrev pub global_of : words.Id → Option words.GlobalId
global_of (words.GlobalThread t) = Some t
global_of _ = None
