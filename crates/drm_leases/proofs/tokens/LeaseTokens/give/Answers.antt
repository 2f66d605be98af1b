use Rattle.std.proofs.Common.{◌≡◌, None, Some, refl, ap, sym, subst, ◌∙◌}
use Rattle.std.specs.Option.{is_some}
use Rattle.std.specs.FinMap as fin
use Rattle.std.proofs.lemmas.Option.{same_Some}
use Rattle.drm_index_array.specs.Rows.{placed}
use Rattle.drm_id_alloc.proofs.BothWays.{one_more}
use Rattle.drm_id_alloc.proofs.NumberTable.{rows_added}
use Rattle.drm_id_alloc.specs.BothWays.{AreBothWays}
use Rattle.drm_id_alloc.proofs.TableLemmas.{IsWithin-insert, taken_back}
use Rattle.drm_leases.specs.Leases.{next_of}
use Rattle.drm_leases.specs.Tokens.{TokenRows, token_row, token_before, lease_token}
use Rattle.drm_leases.proofs.Denied.{some_none}
use Rattle.drm_leases.proofs.OpenTokens.{number_of, next_token_is, table_rows}
use Rattle.drm_leases.proofs.tokens.LeaseTokens.give.Goals as goal

pub unreachable-requires : goal.unreachable-requires
unreachable-requires c =
    let next = next_token_is c.self.inside.lessees c.self.invariant.numbered.first_is in
    some_none _ (ap (λ (l : TokenRows). is_some (next_of l.rows l.last_given l.last)) c.self.view_is ∙ c.requires.free)
    (next ∙ sym c.in_default.ensures.next)

pub returns-clause-given : goal.returns-clause-given
returns-clause-given c =
    rw (← c.self.view_is)
    (next_token_is c.self.inside.lessees c.self.invariant.numbered.first_is ∙ sym c.in-Some.ensures.next)

-- the token is taken back
pub invariant_of-self-in-Err-add_cyclic : goal.invariant_of-self-in-Err-add_cyclic
invariant_of-self-in-Err-add_cyclic c =
    let t = c.self.inside.lessees in
    let items = c.self.inside.tokens.items in
    let back : fin.remove (fin.insert items c.args.lessee c.in-Some.token) c.args.lessee ≡ items =
    ap (λ u. u.slots)
    (taken_back (record { slots = items; first = 0; last = 0; last_given = None }) c.args.lessee c.in-Some.token c.in_default-insert.ensures.absent)
    in
    rw (c.in-Err-add_cyclic.ensures.err, c.remove-token.ensures.after, c.in_default-insert.ensures.ok)
    (record { numbered = c.self.invariant.numbered; ways = subst (AreBothWays t.slots) (sym back) c.self.invariant.ways })

pub invariant_of-self-in_default-add_cyclic : goal.invariant_of-self-in_default-add_cyclic
invariant_of-self-in_default-add_cyclic c =
    let t = c.self.inside.lessees in
    let is = c.self.invariant.numbered in
    let same =
    same_Some c.in_default-add_cyclic.field-0 c.in-Some.token
    (sym c.in_default-add_cyclic.ensures.given ∙ sym c.in-Some.ensures.next) in
    let within =
    IsWithin-insert t.slots t.first t.last t.last_given is.within c.in-Some.token c.args.lessee
    c.in-Some.ensures.low c.in-Some.ensures.high in
    rw (c.in_default-add_cyclic.ensures.ok, same, c.in_default-insert.ensures.ok) (record {
      numbered = record {
        first_is = is.first_is;
        within =
            record
            { in_order = within.in_order; fits = within.fits; low = within.low; high = within.high; given_low = c.in-Some.ensures.low; given_high = c.in-Some.ensures.high };
      };
      ways =
          one_more t.slots c.self.inside.tokens.items c.self.invariant.ways c.in-Some.token c.args.lessee
          c.in_default-insert.ensures.absent c.in-Some.ensures.fresh;
    })

pub returns-clause-ok : goal.returns-clause-ok
returns-clause-ok c =
    let t = c.self.inside.lessees in
    let token = c.in-Some.token in
    let same =
    same_Some c.in_default-add_cyclic.field-0 token
    (sym c.in_default-add_cyclic.ensures.given ∙ sym c.in-Some.ensures.next) in
    ap table_rows (rw same at c.in_default-add_cyclic.ensures.ok)
    ∙
    (λ i. record { last = t.last; last_given = Some token; rows = rows_added token_row number_of (λ e. refl) t.slots token c.args.lessee c.in-Some.ensures.fresh i })
    ∙ ap
    (λ (l : TokenRows). let now : TokenRows = record l { last_given = Some token; rows = placed token_before (lease_token token c.args.lessee) l.rows } in now)
    c.self.view_is
