-- What a member's turns come to.
use Rattle.std.specs.Prelude.{◌≡◌, ℕ, ◌+◌, ◌<◌, List, get_or, length}
use Rattle.group_list.specs.declared.view.Stage.TheVariants.{Free}
use Rattle.group_list.specs.declared.member.Member.{Member}
use Rattle.group_list.specs.declared.list.GroupList.{GroupList}
use Rattle.group_list.specs.Calls.{view, members_of, room_of, IsOf}
use Rattle.parts_bench.specs.declared.group_turns.Player.{Player}

-- the member is one of this list, and in no chain
abbrev pub IsIdle : GroupList → Member → Type 0
IsIdle list member = IsOf list member × ((view member).stage ≡ Free)

-- the member joined this many times more
abbrev pub JoinedMore : ℕ → Member → Member → Type 0
JoinedMore n before after = (view after).publications ≡ (view before).publications + n

-- the player's member is in no chain, and its batch has room for all members
abbrev pub IsReady : GroupList → Player → Type 0
IsReady list p = IsIdle list p.member × (room_of p.batch ≡ members_of list)

-- each player joined this many times more
abbrev pub HaveJoined : ℕ → List Player → List Player → Type 0
HaveJoined n xs ys = (i : ℕ) (d : Player) → i < length xs → JoinedMore n (get_or xs i d).member (get_or ys i d).member
