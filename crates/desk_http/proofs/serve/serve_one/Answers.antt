use Rattle.desk_http.proofs.serve.serve_one.Goals as goal

pub returns-clause-serves : goal.returns-clause-serves
returns-clause-serves g c = rw c.served_of.ensures c.answer_one.ensures.serves

pub returns-clause-read : goal.returns-clause-read
returns-clause-read g c =
    let read = c.answer_one.new.input.bytes.items in
    (read, rw c.served_of.ensures c.answer_one.ensures.read)
