use Rattle.std.proofs.Common.{◌≡◌, ◌++◌, List, length, ap, ◌∙◌, arith, length-append}
use Rattle.drm_sessions.specs.declared.end.Session.{Session}
use Rattle.drm_listeners.proofs.AllSessions.{counted-counts, counted-sat}
use Rattle.drm_listeners.proofs.serving.serve_counted.Goals as goal

pub put_behind-requires : goal.put_behind-requires
put_behind-requires g c =
    let counts = counted-counts c.args.counts _ _ _ c.in_ok-card.ensures.gathered in
    let card = counts.0 in
    let empty = ap (λ (l : List Session). length l) c.in_ok-sessions.ensures.empty in
    let room = c.in_ok-sessions.ensures.room in
    record { reserved = omega (arith, card, empty, room) }

pub put_behind-requires-2 : goal.put_behind-requires-2
put_behind-requires-2 g c =
    let counts = counted-counts c.args.counts _ _ _ c.in_ok-card.ensures.gathered in
    let card = counts.0 in
    let render = counts.1 in
    let empty = ap (λ (l : List Session). length l) c.in_ok-sessions.ensures.empty in
    let room = c.in_ok-sessions.ensures.room in
    let first = ap (λ (l : List Session). length l) c.put_behind.ensures.items ∙ length-append c.in_ok-sessions.sessions.items c.in_ok-card.field-0.card.sessions.items in
    let capacity = c.put_behind.ensures.capacity in
    record { reserved = omega (arith, card, render, empty, room, first, capacity) }

pub put_behind-requires-3 : goal.put_behind-requires-3
put_behind-requires-3 g c =
    let counts = counted-counts c.args.counts _ _ _ c.in_ok-card.ensures.gathered in
    let card = counts.0 in
    let render = counts.1 in
    let root = counts.2 in
    let empty = ap (λ (l : List Session). length l) c.in_ok-sessions.ensures.empty in
    let room = c.in_ok-sessions.ensures.room in
    let first = ap (λ (l : List Session). length l) c.put_behind.ensures.items ∙ length-append c.in_ok-sessions.sessions.items c.in_ok-card.field-0.card.sessions.items in
    let second = ap (λ (l : List Session). length l) c.put_behind-2.ensures.items ∙ length-append c.put_behind.new.sessions.items c.in_ok-card.field-0.render.sessions.items in
    let capacity = c.put_behind.ensures.capacity in
    let capacity' = c.put_behind-2.ensures.capacity in
    record { reserved = omega (arith, card, render, root, empty, room, first, second, capacity, capacity') }

pub returns-clause-sessions : goal.returns-clause-sessions
returns-clause-sessions g c =
    let accounts = c.in_ok-card.field-0 in
    (counted-sat c.args.counts _ _ accounts c.put_behind-3.new.sessions.items c.in_ok-card.ensures.gathered
    (c.put_behind-3.ensures.items ∙ ap (λ (l : List Session). l ++ accounts.root.sessions.items) (c.put_behind-2.ensures.items ∙ ap (λ (l : List Session). l ++ accounts.render.sessions.items) (c.put_behind.ensures.items ∙ ap (λ (l : List Session). l ++ accounts.card.sessions.items) c.in_ok-sessions.ensures.empty)))).0

pub returns-clause-participants : goal.returns-clause-participants
returns-clause-participants g c =
    let accounts = c.in_ok-card.field-0 in
    (counted-sat c.args.counts _ _ accounts c.put_behind-3.new.sessions.items c.in_ok-card.ensures.gathered
    (c.put_behind-3.ensures.items ∙ ap (λ (l : List Session). l ++ accounts.root.sessions.items) (c.put_behind-2.ensures.items ∙ ap (λ (l : List Session). l ++ accounts.render.sessions.items) (c.put_behind.ensures.items ∙ ap (λ (l : List Session). l ++ accounts.card.sessions.items) c.in_ok-sessions.ensures.empty)))).1

pub returns-clause-journaled : goal.returns-clause-journaled
returns-clause-journaled g c =
    let accounts = c.in_ok-card.field-0 in
    (counted-sat c.args.counts _ _ accounts c.put_behind-3.new.sessions.items c.in_ok-card.ensures.gathered
    (c.put_behind-3.ensures.items ∙ ap (λ (l : List Session). l ++ accounts.root.sessions.items) (c.put_behind-2.ensures.items ∙ ap (λ (l : List Session). l ++ accounts.render.sessions.items) (c.put_behind.ensures.items ∙ ap (λ (l : List Session). l ++ accounts.card.sessions.items) c.in_ok-sessions.ensures.empty)))).2
