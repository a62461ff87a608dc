-- Worked values of what names, times and data are held to: cases that a reader can follow by hand.
use Rattle.std.specs.Prelude.{◌≡◌, ℕ, true, false, List, [], ◌∷◌, ◌++◌, length, replicate, Ok, Err}
use Rattle.std.specs.Prelude.{codes}
use Rattle.nfs_wire.specs.declared.attributes.Time.{Time}
use Rattle.nfs_wire.specs.declared.replies.ReadData.{ReadData}
use Rattle.nfs_wire.specs.declared.status.NfsStatus.TheVariants as status
use Rattle.nfs_machine.specs.Checks.{name_checked, plain_name_checked}
use Rattle.nfs_machine.specs.Data.{read_at, resized, written}
use Rattle.nfs_machine.specs.Times.{touch}

abbrev pub time : ℕ → ℕ → Time
time seconds nanoseconds = record { seconds = seconds; nanoseconds = nanoseconds }

abbrev pub now : Time
now = time 1000 0

-- the time of a change rises with each change, up to the greatest time (RFC 1813, 2.5)
pub record WorkedTimes : Type 0 where
  pub later : touch (time 999 5) now ≡ time 1000 0
  pub same : touch (time 1000 0) now ≡ time 1000 1
  pub earlier : touch (time 2000 7) now ≡ time 2000 8
  pub second : touch (time 1000 999999999) now ≡ time 1001 0
  pub greatest : touch (time 4294967295 999999999) now ≡ time 4294967295 999999999
  pub last : touch (time 4294967295 999999998) now ≡ time 4294967295 999999999

-- names that a directory can hold
pub record WorkedNames : Type 0 where
  pub plain : name_checked (codes "x") ≡ Ok tt
  pub longest : name_checked (replicate 255 120) ≡ Ok tt
  pub longer : name_checked (replicate 256 120) ≡ Err status.NameTooLong
  pub empty : name_checked [] ≡ Err status.Access
  pub slash : name_checked (codes "a/b") ≡ Err status.Access
  pub nul : name_checked (97 ∷ 0 ∷ []) ≡ Err status.Access
  pub long_first : name_checked (replicate 256 47) ≡ Err status.NameTooLong
  pub dot : name_checked (codes ".") ≡ Ok tt
  pub new_dot : plain_name_checked status.Exists status.Exists (codes ".") ≡ Err status.Exists
  pub new_dots : plain_name_checked status.Exists status.Exists (codes "..") ≡ Err status.Exists
  pub three_dots : plain_name_checked status.Exists status.Exists (codes "...") ≡ Ok tt

abbrev pub hello : List ℕ
hello = codes "hello"

abbrev pub found : List ℕ → ReadData
found bytes = record { count = length bytes; eof = true; «data» = bytes }

-- what is read of "hello", and what it becomes (RFC 1813, 3.3.6 and 3.3.7)
pub record WorkedContent : Type 0 where
  pub at_end : read_at hello 5 10 ≡ found []
  pub past_end : read_at hello 9 1 ≡ found []
  pub nothing : read_at hello 0 0 ≡ record { count = 0; eof = false; «data» = [] }
  pub tail : read_at hello 3 10 ≡ found (codes "lo")
  pub front : read_at hello 0 4 ≡ record { count = 4; eof = false; «data» = codes "hell" }
  pub gap : written hello 8 (codes "!") ≡ hello ++ 0 ∷ 0 ∷ 0 ∷ 33 ∷ []
  pub inside : written hello 1 (codes "ip") ≡ codes "hiplo"
  pub across : written hello 4 (codes "p me") ≡ codes "hellp me"
  pub cut : resized hello 2 ≡ codes "he"
  pub filled : resized hello 7 ≡ hello ++ 0 ∷ 0 ∷ []
