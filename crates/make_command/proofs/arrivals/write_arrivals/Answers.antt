use Rattle.std.proofs.Common.{[]}
use Rattle.std.proofs.lemmas.List.{append-nil}
use Rattle.make_command.proofs.ArrivalsLemmas.{written_along, written_bytes, written_front}
use Rattle.make_command.proofs.arrivals.write_arrivals.Goals as goal

pub returns-in-Ok-write_capture-clause-along : goal.returns-in-Ok-write_capture-clause-along
returns-in-Ok-write_capture-clause-along g c = written_along c.in-Ok.ensures.came c.in-Ok-write_capture.ensures.wrote

pub returns-in-Ok-write_capture-clause-whole : goal.returns-in-Ok-write_capture-clause-whole
returns-in-Ok-write_capture-clause-whole g c = written_bytes c.in-Ok.ensures.came c.in-Ok-write_capture.ensures.wrote c.in-Ok.ensures.empty

pub returns-in-Ok-write_capture-clause-front : goal.returns-in-Ok-write_capture-clause-front
returns-in-Ok-write_capture-clause-front g c =
    written_front c.in-Ok.ensures.came c.in-Ok-write_capture.ensures.wrote [] _ (append-nil _) c.in-Ok.ensures.empty

pub returns-in-Err-Failed-write_capture-clause-along : goal.returns-in-Err-Failed-write_capture-clause-along
returns-in-Err-Failed-write_capture-clause-along g c = written_along c.in-Ok.ensures.came c.in-Err-Failed-write_capture.ensures.front.wrote

pub returns-in-Err-Failed-write_capture-clause-front : goal.returns-in-Err-Failed-write_capture-clause-front
returns-in-Err-Failed-write_capture-clause-front g c =
    let f = c.in-Err-Failed-write_capture.ensures.front in
    written_front c.in-Ok.ensures.came f.wrote f.rest _ f.split c.in-Ok.ensures.empty

pub returns-in-Err-NoMemory-write_capture-clause-along : goal.returns-in-Err-NoMemory-write_capture-clause-along
returns-in-Err-NoMemory-write_capture-clause-along g c = written_along c.in-Ok.ensures.came c.in-Err-NoMemory-write_capture.ensures.front.wrote

pub returns-in-Err-NoMemory-write_capture-clause-front : goal.returns-in-Err-NoMemory-write_capture-clause-front
returns-in-Err-NoMemory-write_capture-clause-front g c =
    let f = c.in-Err-NoMemory-write_capture.ensures.front in
    written_front c.in-Ok.ensures.came f.wrote f.rest _ f.split c.in-Ok.ensures.empty
