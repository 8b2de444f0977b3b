-- Records that are passed without being judged again, and that of a record which is not faulty the same is told.
pub mod Passed
pub mod PassedLaws
