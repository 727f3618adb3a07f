-- What the test of members answers.
use Rattle.std.specs.Prelude.{◌≡◌, ◌<◌, ◌≤◌, ◌⊎◌, List, length, Result, MatchResult}
use Rattle.std.specs.List.{count_by}
use Rattle.tx_events.specs.declared.multi.Member.{Member}
use Rattle.tx_events.specs.declared.refusal.Refusal.{Refusal}
use Rattle.tx_events.specs.declared.refusal.Refusal.TheVariants as refusals
use Rattle.tx_events.specs.Multis.{AreMembers, is_updater}

-- there are too few or too many, or else two updaters
abbrev pub AreNoMembers : List Member → Refusal → Type 0
AreNoMembers members r =
    (((length members ≡ 0) ⊎ (64 < length members)) × (r ≡ refusals.MemberCount))
    ⊎ ((1 ≤ length members) × (length members ≤ 64) × (1 < count_by is_updater members) × (r ≡ refusals.TwoUpdaters))

abbrev pub ChecksMembers : List Member → Result (Unit {0}) Refusal → Type 0
ChecksMembers members result = MatchResult result (λ _. AreMembers members) (AreNoMembers members)
