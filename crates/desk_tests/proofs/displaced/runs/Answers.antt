use Rattle.desk_tests.proofs.displaced.runs.Goals as goal

pub run_lines-end-requires : goal.run_lines-end-requires
run_lines-end-requires g c = rw c.new-watched.ensures.desk c.requires
