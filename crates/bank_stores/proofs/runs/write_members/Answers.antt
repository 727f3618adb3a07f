use Rattle.std.proofs.Common.{Some, ◌≡◌, ◌+◌, ℕ, ap, arith, length, rules, subst, sym, ◌∙◌, OnOk}
use Rattle.tx_events.specs.Ids.{low_half}
use Rattle.tx_events.specs.Modes.{mode_number}
use Rattle.tx_events.specs.Pages.{member_page, member_place}
use Rattle.slru_bank.specs.Calls.{CallsBank, pages_of}
use Rattle.slru_bank.proofs.ManyStates.{calls_more}
use Rattle.bank_stores.specs.Changes.{SetsMember}
use Rattle.bank_stores.specs.Runs.{SetsMembers}
use Rattle.bank_stores.proofs.RunSlots.{got, one_more, run_page}
use Rattle.bank_stores.proofs.runs.write_members.Goals as goal

pub returns-in_err-write_member-clause-bank : goal.returns-in_err-write_member-clause-bank
returns-in_err-write_member-clause-bank g c =
    let was = c.loop-i.invariant in
    let r = run_page c.args.offset c.loop-i.i (length c.args.members.now) c.loop-i-test.true c.requires.one_page in
    let calls = rw r.0 at c.write_member.ensures.bank in
    let all = calls_more (member_page c.args.offset) c.loop-i.i c.args.bank.now c.loop-i.bank c.write_member.new.bank c.write_member.result was.untouched was.calls calls in
    search (rules, all)

pub loop-i-preserved : goal.loop-i-preserved
loop-i-preserved g c =
    let was = c.loop-i.invariant in
    let r = run_page c.args.offset c.loop-i.i (length c.args.members.now) c.loop-i-test.true c.requires.one_page in
    let calls = rw r.0 at c.write_member.ensures.bank in
    record {
      within = omega arith;
      sets = λ told.
          let m1 = pages_of c.loop-i.bank in
          let m2 = pages_of c.write_member.new.bank in
          let member = c.index-members-i.result in
          let step : SetsMember (member_page (c.args.offset + c.loop-i.i)) (member_place (c.args.offset + c.loop-i.i)) (mode_number member.mode) c.low.result.number m1 m2 = c.in_ok-write_member.ensures.ok told in
          one_more (member_page c.args.offset) (member_place c.args.offset) c.args.members.now c.loop-i.i member (pages_of c.args.bank.now) m1 m2 c.loop-i-test.true c.requires.one_page
          (got c.args.members.now c.loop-i.i member c.loop-i-test.true ∙ ap (λ z. Some z) (sym c.index-members-i.is))
          (λ none. ap (λ b. pages_of b (member_page c.args.offset)) (was.untouched none))
          (was.sets told)
          (subst (λ (z : ℕ × ℕ). SetsMember z.0 z.1 (mode_number member.mode) (low_half member.id) m1 m2) (λ j. (r.0 j, r.1 j)) (subst (λ n. SetsMember (member_page (c.args.offset + c.loop-i.i)) (member_place (c.args.offset + c.loop-i.i)) (mode_number member.mode) n m1 m2) c.low.ensures step));
      untouched = λ none. absurd (omega arith);
      calls = λ some. subst (λ x. CallsBank (member_page c.args.offset) c.args.bank.now c.write_member.new.bank x) c.in_ok-write_member.was (calls_more (member_page c.args.offset) c.loop-i.i c.args.bank.now c.loop-i.bank c.write_member.new.bank c.write_member.result was.untouched was.calls calls);
    }

pub returns-clause-ok : goal.returns-clause-ok
returns-clause-ok g c told =
    let within = c.loop-i.invariant.within in
    let past = c.loop-i-test.false in
    let all : c.loop-i.i ≡ length c.args.members.now = omega arith in
    subst (λ (n : ℕ). SetsMembers (member_page c.args.offset) (member_place c.args.offset) c.args.members.now n (pages_of c.args.bank.now) (pages_of c.loop-i.bank)) all (c.loop-i.invariant.sets told)
