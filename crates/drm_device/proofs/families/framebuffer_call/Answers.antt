use Rattle.drm_state.specs.Callers.{as_caller}
use Rattle.drm_state.proofs.Callers.{caller_open}
use Rattle.drm_device.proofs.families.framebuffer_call.Goals as goal

pub add_fb-requires-clause-open_client : goal.add_fb-requires-clause-open_client
add_fb-requires-clause-open_client c = caller_open c.args.state.now (as_caller c.args.caller) c.requires.caller

pub rm_fb-requires-clause-open_client : goal.rm_fb-requires-clause-open_client
rm_fb-requires-clause-open_client c = caller_open c.args.state.now (as_caller c.args.caller) c.requires.caller
