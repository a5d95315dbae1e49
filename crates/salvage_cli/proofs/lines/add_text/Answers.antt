use Rattle.salvage_cli.specs.Answers.{fault_text}
use Rattle.salvage_cli.proofs.lines.add_text.Goals as goal

pub returns-in-NoWholePage-clause-text : goal.returns-in-NoWholePage-clause-text
unfolding fault_text
returns-in-NoWholePage-clause-text c = rw c.in-NoWholePage.is c.add_numbers.ensures.text

pub returns-in-ReportFault-clause-text : goal.returns-in-ReportFault-clause-text
unfolding fault_text
returns-in-ReportFault-clause-text c = rw c.in-ReportFault.is c.add-in-ReportFault.ensures.text
