use Rattle.std.proofs.Common.{sym, ◌∙◌, arith}
use Rattle.drm_masters.specs.Masters.{has_open_magic}
use Rattle.drm_masters.proofs.Looked.{is_there, find_here, find_on, find_end}
use Rattle.drm_masters.proofs.searches.find_open_magic.Goals as goal

pub unreachable-requires : goal.unreachable-requires
unreachable-requires c =
    is_there c.args.members.now.items c.loop-position.position
    (omega (arith, c.loop-position-test.true, c.len-position-end.ensures)) (sym c.nth.ensures ∙ c.in_default.is)

pub returns-then-has_open_magic : goal.returns-then-has_open_magic
returns-then-has_open_magic c =
    find_here c.args.members.now.items c.loop-position.position c.in-Some.member (sym c.nth.ensures ∙ c.in-Some.is)
    (has_open_magic c.args.master c.args.number) c.loop-position.invariant
    (sym c.has_open_magic.ensures ∙ c.if-has_open_magic.true)

pub loop-position-preserved : goal.loop-position-preserved
loop-position-preserved c =
    find_on c.args.members.now.items c.loop-position.position c.in-Some.member (sym c.nth.ensures ∙ c.in-Some.is)
    (has_open_magic c.args.master c.args.number) c.loop-position.invariant
    (sym c.has_open_magic.ensures ∙ c.if-has_open_magic.false)

pub returns : goal.returns
returns c =
    find_end c.args.members.now.items c.loop-position.position (has_open_magic c.args.master c.args.number)
    c.loop-position.invariant (omega (arith, c.loop-position-test.false, c.len-position-end.ensures))
