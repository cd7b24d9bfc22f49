use Rattle.file_store.proofs.memory.files.MemFiles.image.Goals as goal

pub returns-in-Some-clause-ends : goal.returns-in-Some-clause-ends
returns-in-Some-clause-ends c =
    let e = rw c.in-Some.is at c.in_ok-disk.ensures in
    let faults = c.new.ensures.faults in
    (e.0, e.1, (λ i. record { history = e.2.0 i; faults = faults i }, e.2.1))

pub returns-in-None-clause-ends : goal.returns-in-None-clause-ends
returns-in-None-clause-ends c = rw c.in-None.is at c.in_ok-disk.ensures
