-- The meaning of each call. It is defined with its family (drm-uapi, drm-mm, drm(7), drm-gem(7)).
use Rattle.std.specs.Prelude.{ℕ}
use Rattle.drm_table.specs.declared.calls.Call.{Call}
use Rattle.drm_table.specs.declared.calls.Call.TheVariants.{Unknown, BadLayout, Version, GetMagic, GemClose, GemFlink, GemOpen, GetCap, SetClientCap, AuthMagic, SetMaster, DropMaster, PrimeHandleToFd, PrimeFdToHandle, BufCreate, StampWrite, StampRead, TokenClose, ListHandles, Audit, GetResources, GetCrtc, SetCrtc, GetEncoder, GetConnector, GetFb, AddFb, RmFb, CreateDumb, DestroyDumb, GetPlaneResources, GetPlane, SetPlane, CreateLease, ListLessees, GetLease, RevokeLease}
use Rattle.drm_model.specs.Rows.{Rows}
use Rattle.drm_model.specs.Meaning.{Meaning, nothing}
use Rattle.drm_model.specs.Capabilities.{version, get_cap, set_client_cap}
use Rattle.drm_model.specs.Audit.{audit}
use Rattle.drm_model.specs.Buffers.{gem_close, buf_create, create_dumb, stamp_write, stamp_read, list_handles}
use Rattle.drm_model.specs.Magics.{get_magic, auth_magic, set_master, drop_master}
use Rattle.drm_model.specs.Sharing.{gem_flink, gem_open, prime_export, prime_import, token_close}
use Rattle.drm_model.specs.Modes.{get_resources, get_crtc, set_crtc, get_encoder, get_connector, get_fb, add_fb, rm_fb, get_plane_resources, get_plane, set_plane}
use Rattle.drm_model.specs.Leases.{create_lease, list_lessees, get_lease, revoke_lease}

-- the first two are never admitted
unfoldable pub meaning : Rows → ℕ → Call → Meaning
meaning w c (Unknown number) = nothing w
meaning w c (BadLayout number) = nothing w
meaning w c Version = version w
meaning w c GetMagic = get_magic w c
meaning w c (GemClose handle) = gem_close w c handle
meaning w c (GemFlink handle) = gem_flink w c handle
meaning w c (GemOpen name) = gem_open w c name
meaning w c (GetCap cap) = get_cap w cap
meaning w c (SetClientCap cap value) = set_client_cap w c cap value
meaning w c (AuthMagic magic) = auth_magic w c magic
meaning w c SetMaster = set_master w c
meaning w c DropMaster = drop_master w c
meaning w c (PrimeHandleToFd handle) = prime_export w c handle
meaning w c (PrimeFdToHandle token) = prime_import w c token
meaning w c (BufCreate size) = buf_create w c size
meaning w c (StampWrite handle stamp) = stamp_write w c handle stamp
meaning w c (StampRead handle) = stamp_read w c handle
meaning w c (TokenClose token) = token_close w c token
meaning w c (ListHandles from) = list_handles w c from
meaning w c (Audit kind from) = audit w kind from
meaning w c GetResources = get_resources w c
meaning w c (GetCrtc crtc) = get_crtc w c crtc
meaning w c (SetCrtc crtc framebuffer connector) = set_crtc w c crtc framebuffer connector
meaning w c (GetEncoder encoder) = get_encoder w c encoder
meaning w c (GetConnector connector) = get_connector w c connector
meaning w c (GetFb framebuffer) = get_fb w c framebuffer
meaning w c (AddFb width height pitch bpp handle) =
    add_fb w c (record { width = width; height = height; pitch = pitch; bpp = bpp }) handle
meaning w c (RmFb framebuffer) = rm_fb w c framebuffer
meaning w c (CreateDumb width height bpp) = create_dumb w c width height bpp
meaning w c (DestroyDumb handle) = gem_close w c handle
meaning w c GetPlaneResources = get_plane_resources w c
meaning w c (GetPlane plane) = get_plane w c plane
meaning w c (SetPlane plane crtc framebuffer) = set_plane w c plane crtc framebuffer
meaning w c (CreateLease ids) = create_lease w c ids
meaning w c ListLessees = list_lessees w c
meaning w c GetLease = get_lease w c
meaning w c (RevokeLease lessee) = revoke_lease w c lessee
