-- The leases and open tokens of some masters are removed.
use Rattle.std.proofs.Common.{◌≡◌, ℕ, Bool, not, ◌&&◌, List, filter, sym, ap, subst, ◌∙◌}
use Rattle.drm_masters.specs.Masters.{MasterSet, swept}
use Rattle.drm_masters.specs.Calls.{released}
use Rattle.drm_leases.specs.declared.rows.Grant.{Grant}
use Rattle.drm_leases.specs.declared.rows.Lease.{Lease}
use Rattle.drm_leases.specs.Tokens.{LeaseToken, TokenRows}
use Rattle.drm_leases.specs.declared.leases.Leases.TheInside.{Inside}
use Rattle.drm_leases.specs.Fields.{set_of}
use Rattle.drm_leases.specs.Agreed.{AreAgreed}
use Rattle.drm_leases.specs.Leases.{LeaseSet, Lending, has_token}
use Rattle.drm_leases.specs.Masks.{grants_in, lendings_in}
use Rattle.drm_leases.proofs.Agreeing.{agreed_released}
use Rattle.drm_leases.proofs.Granting.{grants_where, lendings_where}

abbrev pub without : (ℕ → Bool) → LeaseSet → LeaseSet
without gone l = record l {
  tokens = filter (λ (row : LeaseToken). not (gone row.master)) l.tokens;
  grants = filter (λ (g : Grant). not (gone g.master)) l.grants;
  lendings = filter (λ (x : Lending). not (gone x.lessee)) l.lendings;
}

-- After the rows of some lessees are removed, the fields represent the leases and tokens that are left.
pub left : (gone : ℕ → Bool) (a : Inside) (tokens : TokenRows) (rows : List Lease)
    → tokens ≡ (let now : TokenRows = record a.tokens { rows = filter (λ (row : LeaseToken). not (gone row.master)) a.tokens.rows } in now)
    → rows ≡ filter (λ (x : Lease). not (gone x.lessee)) a.granted.rows →
    (let now : LeaseSet = record { last = tokens.last; last_given = tokens.last_given; tokens = tokens.rows; grants = grants_in rows; lendings = lendings_in rows } in now)
    ≡ without gone (set_of a)
left gone a tokens rows e f =
    let grants = ap grants_in f ∙ grants_where (λ n. not (gone n)) a.granted.rows in
    let lendings = ap lendings_in f ∙ lendings_where (λ n. not (gone n)) a.granted.rows in
    λ i. record
    { last = (e i).last; last_given = (e i).last_given; tokens = (e i).rows; grants = grants i; lendings = lendings i }

-- If the lessees of removed open tokens are released, the leases left agree with the masters left.
pub left_agree : (gone : ℕ → Bool) (v w : MasterSet) (l now : LeaseSet) → now ≡ without gone l
    → w ≡ swept (released (λ n. gone n && has_token l.tokens n) v) → AreAgreed l v → AreAgreed now w
left_agree gone v w l now e f agreed =
    subst (λ (a : LeaseSet). AreAgreed a w) (sym e)
    (subst (λ (u : MasterSet). AreAgreed (without gone l) u) (sym f) (agreed_released gone (λ n. gone n && has_token l.tokens n) (λ n e. ap (λ b. b && has_token l.tokens n) e) v.members v.masters l.lendings agreed))
