-- How the queue stands to scratch, and what a search asks, said of the lists that it is lent.
use Rattle.std.specs.Prelude.{ℕ, List}
use Rattle.model.specs.Head.{cells_of}
use Rattle.model.specs.Lent.{Lent}
use Rattle.model.specs.Lent as model
use Rattle.model.specs.declared.Head.{Head}
use Rattle.queue.specs.declared.Queue.{Queue}
use Rattle.search.specs.declared.lent.Scratch.{Scratch}
use Rattle.search.specs.declared.lent.Workspace.{Workspace}
use Rattle.search.specs.LentLists.{scratch_of}
use Rattle.search.specs.Hunt.{Searchable}
use Rattle.search.specs.Waiting.{Queued, Did}

-- the queue holds the key of each waiting cell of scratch, and no other
abbrev pub Agree : (learned : List ℕ) → Scratch → Queue → Type 0
Agree learned s q = Queued q.cells learned (scratch_of s) q.waiting q.heap.now q.place.now

-- scratch is as wanted, and the queue agrees with it again
abbrev pub Became : (learned : List ℕ) → model.Scratch → Scratch → Queue → Type 0
Became learned want s q = Did q.cells learned want (scratch_of s) q.waiting q.heap.now q.place.now

-- the data are accepted, and scratch and the working space have room
abbrev pub CanSearch : Head → Lent → Scratch → Workspace → Type 0
CanSearch head p s w = Searchable head p (cells_of head) (scratch_of s) w.heap.now w.place.now w.gone.now w.list.now
