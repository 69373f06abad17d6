use Rattle.heap.proofs.Marking.{unmarked}
use Rattle.heap.proofs.heap.Heap.new.Goals as goal

pub invariant_of-result-clause-marked : goal.invariant_of-result-clause-marked
invariant_of-result-clause-marked c = rw c.new.ensures.empty (unmarked 1024 65 1024 0)
