-- When a verdict on a member is so by a snapshot of this xmax.
use Rattle.std.proofs.Common.{◌≡◌, ℕ, ◌+◌, ◌%◌, ◌^◌, ◌<◌, ◌≤◌, ◌↔◌, ◌⊎◌, inl, inr, List, Option, Some, None, true, false, take, refl, ap, sym, subst, ◌∙◌, arith, ⊎_elim}
use Rattle.std.specs.Prelude.{unwrap_or}
use Rattle.tx_events.specs.Ids.{low_half}
use Rattle.tx_events.specs.Nearest.{near_id}
use Rattle.tx_events.specs.declared.event.Event.{Event}
use Rattle.tx_events.specs.declared.multi.Member.{Member}
use Rattle.tx_events.specs.declared.multi.Mode.{Mode}
use Rattle.tx_events.specs.declared.record.Counters.{Counters}
use Rattle.tx_events.specs.Snapshots.{snapshot_xmax}
use Rattle.tx_events.specs.Visible.{is_visible}
use Rattle.tx_model.specs.declared.reply.MemberVerdict.{MemberVerdict}
use Rattle.tx_model.specs.declared.reply.Verdict.{Verdict}
use Rattle.tx_model.specs.declared.reply.Verdict.TheVariants as verdicts
use Rattle.tx_model.specs.Replies.{RoundSpan}
use Rattle.report_law.specs.MultiLines.{IsMemberVerdict, IsTold}
use Rattle.multi_rules.specs.Telling.{IsCarriedPast}
use Rattle.tx_events.proofs.Nearness.{near_again, near_is}
use Rattle.multi_rules.proofs.Nearness.{none_again, none_is}

low_low : (n : ℕ) → n % 2 ^ 32 ≡ (n % 2 ^ 32) % 2 ^ 32
low_low n = omega arith

low_small : (n : ℕ) → n % 2 ^ 32 < 2 ^ 32
low_small n = omega arith

small_low : (n : ℕ) → n < 2 ^ 32 → n ≡ n % 2 ^ 32
small_low n l = omega arith

-- by any verdict the member's mode and stored half are told
half_of : (x id : ℕ) (o : Option ℕ) → ((y : ℕ) → o ≡ Some y → low_half y ≡ x) → low_half x ≡ x → id ≡ unwrap_or o x → low_half id ≡ x
half_of x id None each own is = ap low_half is ∙ own
half_of x id (Some y) each own is = ap low_half is ∙ each y refl

pub half_told : (base : Counters) (ids : List ℕ) (h : List Event) (round : RoundSpan) (p : ℕ) (member : Member) (v : MemberVerdict) → IsTold base ids h round p member v → low_half v.id ≡ low_half member.id
half_told base ids h round p member v t =
    let f = snapshot_xmax base.next (take p h) in
    let x = low_half member.id in
    half_of x v.id (near_id f x) (λ y e. (near_is f x y e).0 ∙ sym (low_low member.id)) (sym (low_low member.id)) t.id

module _ (base : Counters) (ids : List ℕ) (h : List Event) (round : RoundSpan) (p : ℕ) (member : Member) (id : ℕ) (mode : Mode) (same_mode : mode ≡ member.mode) (same_half : low_half id ≡ low_half member.id) where
  -- what is told of the id that the stored half means
  of_visible : (o : Option ℕ) → id ≡ unwrap_or o (low_half member.id) → IsMemberVerdict base ids h round p o verdicts.Visible → (o ≡ Some id) × (is_visible ids (take p h) id ≡ true)
  of_visible None is v = absurd v
  of_visible (Some y) is v = (ap Some (sym is), ap (is_visible ids (take p h)) is ∙ v)

  of_hidden : (o : Option ℕ) → id ≡ unwrap_or o (low_half member.id) → IsMemberVerdict base ids h round p o verdicts.Hidden → (o ≡ Some id) × (is_visible ids (take p h) id ≡ false)
  of_hidden None is v = absurd v
  of_hidden (Some y) is v = (ap Some (sym is), ap (is_visible ids (take p h)) is ∙ v)

  of_old : (o : Option ℕ) → id ≡ unwrap_or o (low_half member.id) → IsMemberVerdict base ids h round p o verdicts.TooOld → ((o ≡ Some id) × IsCarriedPast base h round id) ⊎ ((o ≡ None) × (id ≡ low_half member.id))
  of_old None is v = inr (refl, is)
  of_old (Some y) is v = inl (ap Some (sym is), (v.0, v.1, subst (λ n. n < v.0) (sym is) v.2))

  meant : near_id (snapshot_xmax base.next (take p h)) (low_half member.id) ≡ Some id → (snapshot_xmax base.next (take p h) ≤ id + 2 ^ 31) × (id < snapshot_xmax base.next (take p h) + 2 ^ 31)
  meant e = let n = near_is (snapshot_xmax base.next (take p h)) (low_half member.id) id e in (n.1, n.2)

  meaning : snapshot_xmax base.next (take p h) ≤ id + 2 ^ 31 → id < snapshot_xmax base.next (take p h) + 2 ^ 31 → near_id (snapshot_xmax base.next (take p h)) (low_half member.id) ≡ Some id
  meaning a b = near_again (snapshot_xmax base.next (take p h)) (low_half member.id) id (same_half ∙ low_low member.id) a b

  told_as : (v : Verdict) (o : Option ℕ) → near_id (snapshot_xmax base.next (take p h)) (low_half member.id) ≡ o → id ≡ unwrap_or o (low_half member.id) → IsMemberVerdict base ids h round p o v → IsTold base ids h round p member (record { id = id; mode = mode; verdict = v })
  told_as v o near is so = record {
    mode = same_mode;
    id = is ∙ sym (ap (λ (q : Option ℕ). unwrap_or q (low_half member.id)) near);
    verdict = subst (λ (q : Option ℕ). IsMemberVerdict base ids h round p q v) (sym near) so;
  }

  pub visible_iff : IsTold base ids h round p member (record { id = id; mode = mode; verdict = verdicts.Visible })
      ↔ ((snapshot_xmax base.next (take p h) ≤ id + 2 ^ 31) × (id < snapshot_xmax base.next (take p h) + 2 ^ 31) × (is_visible ids (take p h) id ≡ true))
  visible_iff = (
    λ t.
        let s = of_visible (near_id (snapshot_xmax base.next (take p h)) (low_half member.id)) t.id t.verdict in
        let m = meant s.0 in
        (m.0, m.1, s.1),
    λ z. told_as verdicts.Visible (Some id) (meaning z.0 z.1) refl z.2,
  )

  pub hidden_iff : IsTold base ids h round p member (record { id = id; mode = mode; verdict = verdicts.Hidden })
      ↔ ((snapshot_xmax base.next (take p h) ≤ id + 2 ^ 31) × (id < snapshot_xmax base.next (take p h) + 2 ^ 31) × (is_visible ids (take p h) id ≡ false))
  hidden_iff = (
    λ t.
        let s = of_hidden (near_id (snapshot_xmax base.next (take p h)) (low_half member.id)) t.id t.verdict in
        let m = meant s.0 in
        (m.0, m.1, s.1),
    λ z. told_as verdicts.Hidden (Some id) (meaning z.0 z.1) refl z.2,
  )

  pub old_iff : IsTold base ids h round p member (record { id = id; mode = mode; verdict = verdicts.TooOld })
      ↔ (((snapshot_xmax base.next (take p h) ≤ id + 2 ^ 31) × (id < snapshot_xmax base.next (take p h) + 2 ^ 31) × IsCarriedPast base h round id) ⊎ ((snapshot_xmax base.next (take p h) + 2 ^ 31 ≤ id) × (id < 2 ^ 32)))
  old_iff = (
    λ t.
        ⊎_elim
        (λ (s : (near_id (snapshot_xmax base.next (take p h)) (low_half member.id) ≡ Some id) × IsCarriedPast base h round id). let m = meant s.0 in inl (m.0, m.1, s.1))
        (λ (s : (near_id (snapshot_xmax base.next (take p h)) (low_half member.id) ≡ None) × (id ≡ low_half member.id)).
        let l = none_is (snapshot_xmax base.next (take p h)) (low_half member.id) (low_small member.id) s.0 in
        inr (subst (λ n. snapshot_xmax base.next (take p h) + 2 ^ 31 ≤ n) (sym s.1) l, subst (λ n. n < 2 ^ 32) (sym s.1) (low_small member.id)))
        (of_old (near_id (snapshot_xmax base.next (take p h)) (low_half member.id)) t.id t.verdict),
    λ z.
        ⊎_elim
        (λ (s : (snapshot_xmax base.next (take p h) ≤ id + 2 ^ 31) × (id < snapshot_xmax base.next (take p h) + 2 ^ 31) × IsCarriedPast base h round id). told_as verdicts.TooOld (Some id) (meaning s.0 s.1) refl s.2)
        (λ (s : (snapshot_xmax base.next (take p h) + 2 ^ 31 ≤ id) × (id < 2 ^ 32)).
        let is : id ≡ low_half member.id = small_low id s.1 ∙ same_half in
        let l : snapshot_xmax base.next (take p h) + 2 ^ 31 ≤ low_half member.id = subst (λ n. snapshot_xmax base.next (take p h) + 2 ^ 31 ≤ n) is s.0 in
        told_as verdicts.TooOld None (none_again (snapshot_xmax base.next (take p h)) (low_half member.id) (low_small member.id) l) is (tt))
        z,
  )
