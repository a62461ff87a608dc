-- What a connection keeps.
use Rattle.std.specs.Prelude.{◌||◌, nat_le, is_some, length}
use Rattle.nfs_streams.specs.Connections.{ConnectionValue, bytes_of}
use Rattle.nfs_streams.specs.declared.connection.Connection.TheInside.{Inside}
use Rattle.nfs_streams.specs.declared.connection.TheConstants.{MOST_ANSWERS, MOST_GATHERED}

abbrev pub value_of : Inside → ConnectionValue
value_of c = record {
  records = c.records;
  gathered = c.gathered.items;
  last = bytes_of c.last;
  full = (is_some c.last || nat_le MOST_GATHERED (length c.gathered.items)) || nat_le MOST_ANSWERS c.answers;
}
