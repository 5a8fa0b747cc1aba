-- What the parser keeps, as the definitions have it.
use Rattle.l4_script.specs.declared.text.reading.Stage.{Stage}
use Rattle.l4_script.specs.declared.text.reading.Stage.TheVariants as stages
use Rattle.l4_script.specs.Inner.Headings.{heading_of}
use Rattle.l4_script.specs.Texts as texts

abbrev pub stage_of : Stage → texts.Stage
stage_of stages.Start = texts.Start
stage_of (stages.Processors heading) = texts.Processors (heading_of heading)
stage_of (stages.Threads reading) = texts.Threads reading
