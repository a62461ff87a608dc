-- The status that each result begins with (RFC 1813, section 2.5; 2.6 says what each means).
use Rattle.std.specs.Prelude.{ℕ, Bool, List, [], ◌∷◌, ◌==◌}
use Rattle.std.specs.List.{list_any}
use Rattle.nfs_xdr.specs.Types.{Xdr, Enum}
use Rattle.nfs_wire.specs.declared.status.NfsStatus.{NfsStatus}
use Rattle.nfs_wire.specs.declared.status.NfsStatus.TheVariants.{Permission, NoEntry, Io, NoDevice, Access, Exists}
use Rattle.nfs_wire.specs.declared.status.NfsStatus.TheVariants.{CrossDevice, UnsupportedDevice, NotDirectory}
use Rattle.nfs_wire.specs.declared.status.NfsStatus.TheVariants.{IsDirectory, Invalid, FileTooBig, NoSpace, ReadOnly}
use Rattle.nfs_wire.specs.declared.status.NfsStatus.TheVariants.{TooManyLinks, NameTooLong, NotEmpty, Quota, Stale}
use Rattle.nfs_wire.specs.declared.status.NfsStatus.TheVariants.{Remote, BadHandle, NotSynchronized, BadCookie}
use Rattle.nfs_wire.specs.declared.status.NfsStatus.TheVariants.{NotSupported, TooSmall, ServerFault, BadType}
use Rattle.nfs_wire.specs.declared.status.NfsStatus.TheVariants.{Jukebox}

-- the number of a status other than NFS3_OK (nfsstat3, RFC 1813, 2.5)
abbrev pub status_number : NfsStatus → ℕ
status_number Permission = 1
status_number NoEntry = 2
status_number Io = 5
status_number NoDevice = 6
status_number Access = 13
status_number Exists = 17
status_number CrossDevice = 18
status_number UnsupportedDevice = 19
status_number NotDirectory = 20
status_number IsDirectory = 21
status_number Invalid = 22
status_number FileTooBig = 27
status_number NoSpace = 28
status_number ReadOnly = 30
status_number TooManyLinks = 31
status_number NameTooLong = 63
status_number NotEmpty = 66
status_number Quota = 69
status_number Stale = 70
status_number Remote = 71
status_number BadHandle = 10001
status_number NotSynchronized = 10002
status_number BadCookie = 10003
status_number NotSupported = 10004
status_number TooSmall = 10005
status_number ServerFault = 10006
status_number BadType = 10007
status_number Jukebox = 10008

-- the numbers of nfsstat3 (RFC 1813, 2.5), NFS3_OK first
abbrev pub statuses : List ℕ
statuses =
    0 ∷ 1 ∷ 2 ∷ 5 ∷ 6 ∷ 13 ∷ 17 ∷ 18 ∷ 19 ∷ 20 ∷ 21 ∷ 22 ∷ 27 ∷ 28 ∷ 30 ∷ 31 ∷ 63 ∷
    66 ∷ 69 ∷ 70 ∷ 71 ∷ 10001 ∷ 10002 ∷ 10003 ∷ 10004 ∷ 10005 ∷ 10006 ∷ 10007 ∷ 10008 ∷ []

abbrev pub is_status : ℕ → Bool
is_status n = list_any (λ status. n == status) statuses

-- nfsstat3 (RFC 1813, 2.5)
abbrev pub nfsstat3 : Xdr
nfsstat3 = Enum is_status
