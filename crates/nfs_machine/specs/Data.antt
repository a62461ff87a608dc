-- The content of files as one list of bytes (RFC 1813, 3.3.6 and 3.3.7).
use Rattle.std.specs.Prelude.{ℕ, ◌+◌, ◌-◌, List, ◌++◌, length, take, drop, replicate, min, nat_le}
use Rattle.nfs_wire.specs.declared.replies.ReadData.{ReadData}

-- the most that one READ or WRITE carries (3.3.19: rtmax, wtmax), and the size of the largest file (maxfilesize), in
-- bytes
abbrev pub transfer_limit : ℕ
transfer_limit = 65536

abbrev pub size_limit : ℕ
size_limit = 1073741824

-- a file of this size: cut off, or filled up with zeros
abbrev pub resized : List ℕ → ℕ → List ℕ
resized bytes size = take size bytes ++ replicate (size - length bytes) 0

-- the content after more was written at an offset; a gap before it is zeros
abbrev pub written : List ℕ → ℕ → List ℕ → List ℕ
written bytes offset more = resized bytes offset ++ more ++ drop (offset + length more) bytes

-- what is read there, and whether the file ends with it
abbrev pub read_at : List ℕ → ℕ → ℕ → ReadData
read_at bytes offset count =
    let found = take (min count transfer_limit)
    (drop offset bytes) in
    record { count = length found; eof = nat_le (length bytes) (offset + length found); «data» = found }
