-- What a first line says, as the definitions have it.
use Rattle.l4_types.specs.Inner.FormatView.{format_of}
use Rattle.l4_script.specs.declared.text.statements.Heading.{Heading}
use Rattle.l4_script.specs.Statements as statements

abbrev pub heading_of : Heading → statements.Heading
heading_of heading = record { retargeting = heading.retargeting; format = format_of heading.format }
