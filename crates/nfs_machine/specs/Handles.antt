-- Handles and their bytes (RFC 1813, 2.5: opaque to clients, chosen by the server).
use Rattle.std.specs.Prelude.{ℕ, ◌&&◌, List, ◌++◌, length, take, drop, Option, Some, None}
use Rattle.std.specs.Prelude.{if◌then◌else◌, ◌==◌}
use Rattle.std.specs.Int.{w32, w64, to_be_bytes, from_be_bytes}
use Rattle.nfs_machine.specs.declared.handle.Handle.{Handle}

-- "NFD3", the mark of this server's handles
abbrev pub handle_mark : ℕ
handle_mark = 0x4e464433

-- the bytes of a handle: mark, export, start number, fileid, generation
abbrev pub handle_bytes : Handle → List ℕ
handle_bytes h = to_be_bytes w32 handle_mark ++
    (to_be_bytes w32 h.export ++
    (to_be_bytes w64 h.start ++ (to_be_bytes w64 h.fileid ++ to_be_bytes w64 h.generation)))

-- the handle that these bytes are, if they have the form of one
abbrev pub handle_of : List ℕ → Option Handle
handle_of bytes =
    let long : ℕ → ℕ = λ from. from_be_bytes w64 (take 8 (drop from bytes)) in
    if (length bytes == 32) && (from_be_bytes w32 (take 4 bytes) == handle_mark) then
    Some (record {
      export = from_be_bytes w32 (take 4 (drop 4 bytes));
      start = long 8;
      fileid = long 16;
      generation = long 24;
    })
    else None
