use Rattle.hall.proofs.Laying.{Laid}
use Rattle.hall.proofs.parts.first_words.Given as goal

abbrev pub invariant-loop-w : goal.invariant-loop-w
invariant-loop-w l = Laid l.cells l.w l.posts l.words.items
