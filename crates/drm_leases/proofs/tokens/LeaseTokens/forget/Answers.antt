use Rattle.std.proofs.Common.{not, filter, refl, ap, sym, ◌∙◌}
use Rattle.drm_id_alloc.proofs.BothWays.{one_less, forgotten, none_forgotten}
use Rattle.drm_id_alloc.proofs.TableLemmas.{IsWithin-remove}
use Rattle.drm_leases.specs.Leases.{is_token_of}
use Rattle.drm_leases.specs.Tokens.{TokenRows, token_row}
use Rattle.drm_leases.proofs.OpenTokens.{number_of, table_rows, with_rows}
use Rattle.drm_leases.proofs.tokens.LeaseTokens.forget.Goals as goal

pub invariant_of-self : goal.invariant_of-self
invariant_of-self c =
    let t = c.self.inside.lessees in
    rw (c.remove-lessee.ensures.after, c.in-Some.ensures.after) (record {
      numbered =
          record
          { first_is = c.self.invariant.numbered.first_is; within = IsWithin-remove t.slots t.first t.last t.last_given c.self.invariant.numbered.within c.in-Some.token };
      ways =
          one_less t.slots c.self.inside.tokens.items c.self.invariant.ways c.in-Some.token c.args.lessee
          (sym c.in-Some.ensures.value);
    })

pub returns-in-Some : goal.returns-in-Some
returns-in-Some c =
    let t = c.self.inside.lessees in
    ap table_rows c.remove-lessee.ensures.after
    ∙ ap (λ rows. with_rows rows (table_rows t))
    (forgotten t.slots c.self.inside.tokens.items c.self.invariant.ways token_row number_of (λ e. refl) is_token_of (λ k e. refl) c.in-Some.token c.args.lessee (sym c.in-Some.ensures.value))
    ∙ ap (λ (l : TokenRows). with_rows (filter (λ row. not (is_token_of c.args.lessee row)) l.rows) l) c.self.view_is

pub returns-in_default : goal.returns-in_default
returns-in_default c =
    let t = c.self.inside.lessees in
    ap (λ rows. with_rows rows (table_rows t))
    (sym (none_forgotten t.slots c.self.inside.tokens.items c.self.invariant.ways token_row number_of (λ e. refl) is_token_of (λ k e. refl) c.args.lessee (sym c.in_default.ensures.value)))
    ∙ ap (λ (l : TokenRows). with_rows (filter (λ row. not (is_token_of c.args.lessee row)) l.rows) l) c.self.view_is
