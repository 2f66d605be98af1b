use Rattle.std.proofs.Common.{◌≡◌, arith, take, List, ℕ, ◌-◌, ◌++◌, ◌∙◌, length, ap, sym}
use Rattle.std.proofs.lemmas.List.{length-take-le}
use Rattle.drm_sessions.proofs.Parts.{take-written}
use Rattle.drm_sessions.proofs.Telling.{got-untold}
use Rattle.drm_sessions.proofs.inbox.Inbox.refill.Goals as goal

pub returns-in-Got : goal.returns-in-Got
returns-in-Got g c =
    let came = c.in-Got.ensures.refills in
    let more : List ℕ = take c.in-Got.count c.take_some-refill.new.buffer in
    let within = c.self.invariant in
    let told = c.self.told in
    let len : length more ≡ c.in-Got.count = length-take-le c.in-Got.count c.take_some-refill.new.buffer came.2 in
    let some = came.1 in
    record {
      supplies = (
        record {
          more = more;
          spends = came.0;
          parts =
              take-written c.self.inside.len (1028 - c.self.inside.len) c.in-Got.count c.self.inside.bytes
              c.take_some-refill.new.buffer (omega (arith, within, told)) came.2
              ∙ ap (λ (t : List ℕ). t ++ more) c.self.view_is;
          some = omega (arith, len, some);
          gave = c.in-Got.ensures.gave ∙ sym len;
          untold = got-untold c.in-Got.ensures.calls.0 c.in-Got.ensures.calls.2;
        },
        came.3,
      );
    }
