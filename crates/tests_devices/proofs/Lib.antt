pub mod ByteFileLemmas
