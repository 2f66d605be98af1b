use Rattle.std.proofs.Common.{not, filter, refl, ap, sym, ◌∙◌}
use Rattle.drm_id_alloc.proofs.BothWays.{one_less}
use Rattle.drm_id_alloc.proofs.NumberTable.{rows_removed}
use Rattle.drm_id_alloc.proofs.TableLemmas.{IsWithin-remove}
use Rattle.drm_leases.specs.Leases.{is_token, token_master}
use Rattle.drm_leases.specs.Tokens.{TokenRows, token_row}
use Rattle.drm_leases.proofs.OpenTokens.{lessee_is, number_of, table_rows, with_rows}
use Rattle.drm_leases.proofs.tokens.LeaseTokens.spend.Goals as goal

pub invariant_of-self-2 : goal.invariant_of-self-2
invariant_of-self-2 c =
    let t = c.self.inside.lessees in
    rw (c.in-Some.ensures.after, c.remove-token.ensures.after) (record {
      numbered =
          record
          { first_is = c.self.invariant.numbered.first_is; within = IsWithin-remove t.slots t.first t.last t.last_given c.self.invariant.numbered.within c.args.token };
      ways =
          one_less t.slots c.self.inside.tokens.items c.self.invariant.ways c.args.token c.in-Some.lessee
          (c.self.invariant.ways.named c.args.token c.in-Some.lessee (sym c.in-Some.ensures.value));
    })

pub returns-clause-spent : goal.returns-clause-spent
returns-clause-spent c =
    let t = c.self.inside.lessees in
    ap table_rows c.in-Some.ensures.after
    ∙ ap (λ rows. with_rows rows (table_rows t)) (rows_removed token_row number_of (λ e. refl) t.slots c.args.token)
    ∙ ap (λ (l : TokenRows). with_rows (filter (λ row. not (is_token c.args.token row)) l.rows) l) c.self.view_is

pub returns-clause-lessee : goal.returns-clause-lessee
returns-clause-lessee c =
    c.in-Some.ensures.value ∙ sym (lessee_is c.self.inside.lessees.slots c.args.token)
    ∙ ap (λ (l : TokenRows). token_master l.rows c.args.token) c.self.view_is

pub returns-in_default-clause-spent : goal.returns-in_default-clause-spent
returns-in_default-clause-spent c =
    let t = c.self.inside.lessees in
    ap table_rows c.in_default.ensures.after
    ∙ ap (λ rows. with_rows rows (table_rows t)) (rows_removed token_row number_of (λ e. refl) t.slots c.args.token)
    ∙ ap (λ (l : TokenRows). with_rows (filter (λ row. not (is_token c.args.token row)) l.rows) l) c.self.view_is

pub returns-in_default-clause-lessee : goal.returns-in_default-clause-lessee
returns-in_default-clause-lessee c =
    c.in_default.ensures.value ∙ sym (lessee_is c.self.inside.lessees.slots c.args.token)
    ∙ ap (λ (l : TokenRows). token_master l.rows c.args.token) c.self.view_is
