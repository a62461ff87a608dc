-- A refused call's result is the status and the other arm.
use Rattle.std.proofs.Common.{◌≡◌, ℕ, List, length, refl, lit<}
use Rattle.nfs_xdr.specs.Types.{Xdr, Void, Opaque, Pair, Value, HasSpelling}
use Rattle.nfs_xdr.specs.Writing.{with_word, with_padded, with_arm, appended}
use Rattle.nfs_wire.specs.Results.{outcome, done_value, refused_value}
use Rattle.nfs_wire.specs.Status.{nfsstat3, status_number}
use Rattle.nfs_wire.specs.Attributes.{ftype3, type_number}
use Rattle.nfs_wire.specs.declared.attributes.FileType.{FileType}
use Rattle.nfs_wire.specs.declared.attributes.FileType.TheVariants.{Regular}
use Rattle.nfs_wire.specs.declared.status.NfsStatus.{NfsStatus}
use Rattle.nfs_wire.specs.declared.status.NfsStatus.TheVariants.{Permission}

-- the status NFS3_OK is appended, and then its arm
pub appended_done : (done refused : Xdr) (value : Value done) (old : List ℕ)
    → appended (outcome done refused) (done_value done refused value) old ≡ appended done value
    (appended nfsstat3 0 old)
unfolding appended with_arm done_value
appended_done done refused value old = refl

-- another status is appended, and then the other arm
pub appended_refused : (done refused : Xdr) (status : NfsStatus) (value : Value refused) (old : List ℕ)
    → appended (outcome done refused) (status_number status, refused_value done refused status value) old ≡ appended
    refused value (appended nfsstat3 (status_number status) old)
unfolding appended with_arm
appended_refused done refused Permission value old = refl
appended_refused done refused _ value old = refl

-- two items are appended one behind the other
pub appended_pair : (first second : Xdr) (v : Value first) (w : Value second) (old : List ℕ)
    → appended (Pair first second) (v, w) old ≡ appended second w (appended first v old)
unfolding appended
appended_pair first second v w old = refl

-- bytes are appended alike under each bound
pub appended_opaque : (max : ℕ) (bytes old : List ℕ) → appended (Opaque max) bytes old ≡ with_padded bytes
    (with_word (length bytes) old)
unfolding appended
appended_opaque max bytes old = refl

-- nothing is appended
pub appended_void : (old : List ℕ) → appended Void tt old ≡ old
unfolding appended
appended_void old = refl

-- a file's type is one of ftype3
pub type_form : (kind : FileType) → HasSpelling ftype3 (type_number kind)
type_form Regular = (lit< tt, refl)
type_form _ = (lit< tt, refl)

-- a status is one of nfsstat3
pub status_form : (status : NfsStatus) → HasSpelling nfsstat3 (status_number status)
status_form Permission = (lit< tt, refl)
status_form _ = (lit< tt, refl)

-- a refused call's result has a spelling where its other arm has
pub refused_form : (done refused : Xdr) (status : NfsStatus) (value : Value refused) → HasSpelling refused value
    → HasSpelling (outcome done refused) (status_number status, refused_value done refused status value)
refused_form done refused Permission value form = (lit< tt, refl, form)
refused_form done refused _ value form = (lit< tt, refl, form)

-- the result of a call that was done has a spelling where its arm has
pub done_form : (done refused : Xdr) (value : Value done) → HasSpelling done value
    → HasSpelling (outcome done refused) (done_value done refused value)
unfolding done_value
done_form done refused value form = (lit< tt, refl, form)

-- what joins the status of a result with its arm, and an arm's items
pub ruleset outcomes = (appended_done, appended_refused, appended_void, done_form, refused_form)

pub ruleset items = (appended_pair, appended_opaque)
