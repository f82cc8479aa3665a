use Rattle.service_tests.proofs.displaced.serves.Goals as goal

pub serving-service-requires : goal.serving-service-requires
serving-service-requires g c = rw c.new-watched.ensures.desk c.requires
