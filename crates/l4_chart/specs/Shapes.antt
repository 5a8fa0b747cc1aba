-- How each kind of step looks in a picture.
use Rattle.std.specs.Prelude.{ℕ, List, codes}
use Rattle.l4_chart.specs.declared.marks.Kind.{Kind}
use Rattle.l4_chart.specs.declared.marks.Kind.TheVariants as kind

-- The class of a kind, by which it has its colour.
abbrev pub class_of : Kind → List ℕ
class_of kind.Local = codes "local"
class_of kind.Begin = codes "begin"
class_of kind.Queue = codes "queue"
class_of kind.Wait = codes "wait"
class_of kind.SendFailure = codes "sfail"
class_of kind.ReceiveFailure = codes "rfail"
class_of kind.Order = codes "order"
class_of kind.Obey = codes "obey"
class_of kind.Retarget = codes "retarget"
class_of kind.Ready = codes "ready"
class_of kind.Ended = codes "ended"
class_of kind.Deleted = codes "deleted"

-- Its outline around the point where it begins, in pixels.
abbrev pub outline_of : Kind → List ℕ
outline_of kind.Local = codes "m-3 0a3 3 0 1 0 6 0a3 3 0 1 0-6 0z"
outline_of kind.Begin = codes "m-5 0a5 5 0 1 0 10 0a5 5 0 1 0-10 0z"
outline_of kind.Queue = codes "m-5-5h10v10h-10z"
outline_of kind.Wait = codes "m0-6l6 6l-6 6l-6-6z"
outline_of kind.SendFailure = codes "m-5-5l10 10m0-10l-10 10"
outline_of kind.ReceiveFailure = codes "m-7 0a7 7 0 1 0 14 0a7 7 0 1 0-14 0zm3-4l8 8m0-8l-8 8"
outline_of kind.Order = codes "m0-6l6 11h-12z"
outline_of kind.Obey = codes "m0 6l6-11h-12z"
outline_of kind.Retarget = codes "m-6 0a6 6 0 1 1 6 6m4-3l-4 3l4 3"
outline_of kind.Ready = codes ""
outline_of kind.Ended = codes "m-8 0h16"
outline_of kind.Deleted = codes "m-8 0h16m-12-4l8 8m0-8l-8 8"

-- What it is, for the legend of a page.
abbrev pub meaning_of : Kind → List ℕ
meaning_of kind.Local = codes "an instruction"
meaning_of kind.Begin = codes "a send begins"
meaning_of kind.Queue = codes "a send is queued"
meaning_of kind.Wait = codes "a receive phase begins"
meaning_of kind.SendFailure = codes "a send fails"
meaning_of kind.ReceiveFailure = codes "a receive phase fails"
meaning_of kind.Order = codes "an order"
meaning_of kind.Obey = codes "an order is done"
meaning_of kind.Retarget = codes "a retarget"
meaning_of kind.Ready = codes "ready"
meaning_of kind.Ended = codes "has ended"
meaning_of kind.Deleted = codes "was deleted"
