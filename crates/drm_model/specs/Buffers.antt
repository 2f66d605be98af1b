-- BUF_CREATE, MODE_CREATE_DUMB, GEM_CLOSE, MODE_DESTROY_DUMB, STAMP_WRITE, STAMP_READ and LIST_HANDLES. Handles are as
-- drm-mm and drm-gem(7) say, dumb buffers as drm-uapi says; stamps, lists of handles and BUF_CREATE are this project's
-- own.
use Rattle.std.specs.Prelude.{ℕ, ◌+◌, ◌*◌, ◌/◌, ◌-◌, ◌==◌, nat_le, Bool, ◌&&◌, List, [], ◌∷◌, ◌++◌, None, unwrap_or, map, filter, take, if◌then◌else◌}
use Rattle.std.specs.Option.{is_some, option_map}
use Rattle.drm_table.specs.declared.answers.Answer.TheVariants.{Number, Dumb, Buffer, List as ListIs}
use Rattle.drm_table.specs.declared.rules.Rule.TheVariants.{NoHandle, NoHandleToClose, BadSize, Full}
use Rattle.drm_table.specs.Permit.{check}
use Rattle.drm_model.specs.Numbers.{rising}
use Rattle.drm_model.specs.Rows.{Rows, ObjectRow, step_number, without, is_handle, has_handle, object_of, object_row, handles_of, free_handle, has_object_room, with_handle_row}
use Rattle.drm_model.specs.Meaning.{Meaning, nothing}

-- sizes (the ranges and the roundings are own)

-- the lowest multiple of the unit that is not below n
abbrev pub rounded_up : ℕ → ℕ → ℕ
rounded_up unit n = (n + (unit - 1)) / unit * unit

-- width and height in pixels, and bits a pixel
abbrev pub is_dumb_shape : ℕ → ℕ → ℕ → Bool
is_dumb_shape width height bpp =
    nat_le 1 width && nat_le width 65535 && nat_le 1 height && nat_le height 65535 && nat_le 1 bpp && nat_le bpp 64

-- the bytes of a pixel with this number of bits
abbrev pub bytes_per_pixel : ℕ → ℕ
bytes_per_pixel bpp = (bpp + 7) / 8

-- the bytes of a row of pixels
unfoldable pub dumb_pitch : ℕ → ℕ → ℕ
dumb_pitch width bpp = rounded_up 64 (width * bytes_per_pixel bpp)

-- the bytes of the whole
unfoldable pub dumb_size : ℕ → ℕ → ℕ → ℕ
dumb_size width height bpp = rounded_up 4096 (dumb_pitch width bpp * height)

-- the bytes that may be asked for: up to 64 GiB
abbrev pub is_buffer_size : ℕ → Bool
is_buffer_size size = nat_le 1 size && nat_le size 68719476736

-- a size in bytes, rounded up to whole pages
unfoldable pub buffer_size : ℕ → ℕ
buffer_size size = rounded_up 4096 size

-- a new object, and a handle of it
unfoldable pub with_object : Rows → ℕ → ℕ → Rows
with_object w c size = record w {
  objects = w.objects ++ record { object = step_number w; size = size; stamp = 0 } ∷ [];
  holds = with_handle_row w c (step_number w) None;
}

-- whether the client may have one more handle, and one more object may be there
abbrev pub has_buffer_room : Rows → ℕ → Bool
has_buffer_room w c = is_some (free_handle w c) && has_object_room w

-- the handle of a new buffer; 0 if none is free
abbrev pub new_handle : Rows → ℕ → ℕ
new_handle w c = unwrap_or (free_handle w c) 0

-- MODE_CREATE_DUMB
abbrev pub create_dumb : Rows → ℕ → ℕ → ℕ → ℕ → Meaning
create_dumb w c width height bpp = record {
  checks = check BadSize (is_dumb_shape width height bpp) ∷ check Full (has_buffer_room w c) ∷ [];
  rows = with_object w c (dumb_size width height bpp);
  answer = Dumb (new_handle w c) (dumb_pitch width bpp) (dumb_size width height bpp);
}

-- BUF_CREATE
abbrev pub buf_create : Rows → ℕ → ℕ → Meaning
buf_create w c size = record {
  checks = check BadSize (is_buffer_size size) ∷ check Full (has_buffer_room w c) ∷ [];
  rows = with_object w c (buffer_size size);
  answer = Buffer (new_handle w c) (buffer_size size);
}

-- GEM_CLOSE, and MODE_DESTROY_DUMB, which does the same
abbrev pub gem_close : Rows → ℕ → ℕ → Meaning
gem_close w c handle = record (nothing w) {
  checks = check NoHandleToClose (has_handle w c handle) ∷ [];
  rows = record w { holds = without (is_handle c handle) w.holds };
}

-- the objects, of which one has another stamp
unfoldable pub with_stamp : ℕ → ℕ → List ObjectRow → List ObjectRow
with_stamp o stamp objects =
    map (λ (row : ObjectRow). if row.object == o then record row { stamp = stamp } else row) objects

-- STAMP_WRITE
abbrev pub stamp_write : Rows → ℕ → ℕ → ℕ → Meaning
stamp_write w c handle stamp = record (nothing w) {
  checks = check NoHandle (has_handle w c handle) ∷ [];
  rows = record w { objects = with_stamp (object_of w c handle) stamp w.objects };
}

-- STAMP_READ
abbrev pub stamp_read : Rows → ℕ → ℕ → Meaning
stamp_read w c handle = record (nothing w) {
  checks = check NoHandle (has_handle w c handle) ∷ [];
  answer = Number (unwrap_or (option_map (λ (row : ObjectRow). row.stamp) (object_row w (object_of w c handle))) 0);
}

-- LIST_HANDLES: the caller's handles that are not below `from`, rising, the first 64
abbrev pub list_handles : Rows → ℕ → ℕ → Meaning
list_handles w c from = record (nothing w) {
  answer = ListIs (take 64 (filter (λ handle. nat_le from handle) (rising (handles_of w c))));
}
