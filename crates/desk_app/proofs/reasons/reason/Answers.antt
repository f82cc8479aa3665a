use Rattle.desk_app.proofs.reasons.reason.Goals as goal

pub returns-in-FaultyLine : goal.returns-in-FaultyLine
returns-in-FaultyLine c = rw c.in-FaultyLine.is (rw c.names_of.ensures at c.why_faulty_line.ensures)
