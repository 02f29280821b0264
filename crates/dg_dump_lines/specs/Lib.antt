pub mod PutLines
