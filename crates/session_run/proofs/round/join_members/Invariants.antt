use Rattle.std.proofs.Common.{◌≡◌, false, drop, take}
use Rattle.std.specs.List.{All}
use Rattle.session_run.specs.Rounds.{callers_of, with_members}
use Rattle.session_run.proofs.round.join_members.Given as goal

abbrev pub invariant-loop-member : goal.invariant-loop-member
invariant-loop-member g l = record {
  sufficed : All (λ m. m.lost ≡ false) (take l.member-index l.initial.member-items);
  kept : l.kept ≡ with_members g.K.LineKeeper l.fn.kept (take l.member-index l.initial.member-items);
  callers : callers_of l.member-items ≡ callers_of l.initial.member-items;
  rest : drop l.member-index l.member-items ≡ drop l.member-index l.initial.member-items;
}
