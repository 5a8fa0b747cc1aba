use Rattle.l4_chart.proofs.Lawful.{arrows_are_deliveries, rows_are_steps, standings_are_reached}
use Rattle.l4_chart.proofs.Under.{columns_are_threads}
use Rattle.l4_chart.proofs.chart.law_of_charts.Goals as goal

pub returns-clause-rows : goal.returns-clause-rows
returns-clause-rows c = rows_are_steps

pub returns-clause-arrows : goal.returns-clause-arrows
returns-clause-arrows c = arrows_are_deliveries

pub returns-clause-columns : goal.returns-clause-columns
returns-clause-columns c = columns_are_threads

pub returns-clause-standings : goal.returns-clause-standings
returns-clause-standings c = standings_are_reached
